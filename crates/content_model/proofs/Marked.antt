-- Groups whose names are marked where the children so far can end, and what a child does to the marks.
use Rattle.std.proofs.Common.{◌≡◌, ◌⊎◌, ℕ, Bool, true, false, ◌&&◌, ◌||◌, ◌==◌, List, [], ◌∷◌, ◌++◌, sym, refl, ap, ◌∙◌, subst, inl, inr, eq-eqb}
use Rattle.std.proofs.lemmas.Bool.{eqb-true}
use Rattle.std.specs.List.{AllByRecursion, concat}
use Rattle.content_model.specs.declared.particle.Separator.TheVariants.{Sequence, Choice}
use Rattle.content_model.specs.declared.particle.Occurrence.TheVariants.{Optional, ZeroOrMore, OneOrMore}
use Rattle.content_model.specs.Particle.{Particle, Name, Joined, Repeated, renamed}
use Rattle.content_model.specs.Language.{Matches, AreIn}
use Rattle.content_model.specs.Passes.{is_nullable}

-- a particle of which each name has a mark
abbrev pub Marked : Type 0
Marked = Particle (ℕ × Bool)

-- the particle without its marks
abbrev pub bare : Marked → Particle ℕ
bare q = renamed (λ (x : ℕ × Bool). x.0) q

-- whether the children so far can end in the particle
abbrev pub is_final : Marked → Bool
is_final (Name x) = x.1
is_final (Joined Sequence p q) = is_final q || is_final p && is_nullable q
is_final (Joined Choice p q) = is_final p || is_final q
is_final (Repeated o p) = is_final p

-- the marks after one more child, where the particle can also begin with it if begins says so
abbrev pub shift : ℕ → Bool → Marked → Marked
shift c begins (Name x) = Name (x.0, begins && (x.0 == c))
shift c begins (Joined Sequence p q) = Joined Sequence (shift c begins p) (shift c (begins && is_nullable p || is_final p) q)
shift c begins (Joined Choice p q) = Joined Choice (shift c begins p) (shift c begins q)
shift c begins (Repeated Optional p) = Repeated Optional (shift c begins p)
shift c begins (Repeated ZeroOrMore p) = Repeated ZeroOrMore (shift c (begins || is_final p) p)
shift c begins (Repeated OneOrMore p) = Repeated OneOrMore (shift c (begins || is_final p) p)

-- the word goes on from a front in the first language to its end in the second
abbrev pub Then : (List ℕ → Type 0) → (List ℕ → Type 0) → List ℕ → Type 0
Then First Second word = (front : List ℕ) × (back : List ℕ) × (word ≡ front ++ back) × First front × Second back

-- pieces in the language, one after another
abbrev pub Many : (List ℕ → Type 0) → List ℕ → Type 0
Many Language word = (pieces : List (List ℕ)) × AreIn Language pieces word

-- the word leads from a mark to the end of the particle
abbrev pub Rest : Marked → List ℕ → Type 0
Rest (Name x) word = (x.1 ≡ true) × (word ≡ [])
Rest (Joined Sequence p q) word = Then (Rest p) (Matches (bare q)) word ⊎ Rest q word
Rest (Joined Choice p q) word = Rest p word ⊎ Rest q word
Rest (Repeated Optional p) word = Rest p word
Rest (Repeated ZeroOrMore p) word = Then (Rest p) (Many (Matches (bare p))) word
Rest (Repeated OneOrMore p) word = Then (Rest p) (Many (Matches (bare p))) word

-- the word leads from a mark to the end, or from the beginning, if begins says so
abbrev pub Live : Bool → Marked → List ℕ → Type 0
Live begins q word = ((begins ≡ true) × Matches (bare q) word) ⊎ Rest q word

-- a child changes marks alone
pub bare-shift : (c : ℕ) (m : Bool) (q : Marked) → bare (shift c m q) ≡ bare q
bare-shift c m (Name x) = refl
bare-shift c m (Joined Sequence p q) = cc (bare-shift c m p, bare-shift c (m && is_nullable p || is_final p) q)
bare-shift c m (Joined Choice p q) = cc (bare-shift c m p, bare-shift c m q)
bare-shift c m (Repeated Optional p) = cc (bare-shift c m p)
bare-shift c m (Repeated ZeroOrMore p) = cc (bare-shift c (m || is_final p) p)
bare-shift c m (Repeated OneOrMore p) = cc (bare-shift c (m || is_final p) p)

-- names and marks do not tell whether a particle allows no children
pub is_nullable-bare : {A B : Type 0} (f : A → B) (q : Particle A) → is_nullable (renamed f q) ≡ is_nullable q
is_nullable-bare f (Name x) = refl
is_nullable-bare f (Joined Sequence p q) = cc (is_nullable-bare f p, is_nullable-bare f q)
is_nullable-bare f (Joined Choice p q) = cc (is_nullable-bare f p, is_nullable-bare f q)
is_nullable-bare f (Repeated Optional p) = refl
is_nullable-bare f (Repeated ZeroOrMore p) = refl
is_nullable-bare f (Repeated OneOrMore p) = is_nullable-bare f p

pub and-true : (a b : Bool) → a && b ≡ true → (a ≡ true) × (b ≡ true)
and-true true b h = (refl, h)
and-true false b h = cc

pub true-and : (a b : Bool) → a ≡ true → b ≡ true → a && b ≡ true
true-and true b h k = k
true-and false b h k = cc

pub or-true : (a b : Bool) → a || b ≡ true → (a ≡ true) ⊎ (b ≡ true)
or-true true b h = inl refl
or-true false b h = inr h

pub or-left : (a b : Bool) → a ≡ true → a || b ≡ true
or-left true b h = refl
or-left false b h = cc

pub or-right : (a b : Bool) → b ≡ true → a || b ≡ true
or-right true b h = refl
or-right false b h = h

empty-parts : (u v : List ℕ) → [] ≡ u ++ v → (u ≡ []) × (v ≡ [])
empty-parts [] v h = (refl, sym h)
empty-parts (x ∷ u) v h = cc

-- a first element is that of the front, or of the back where the front is empty
cons-parts : (c : ℕ) (w u v : List ℕ) → c ∷ w ≡ u ++ v → ((u ≡ []) × (v ≡ c ∷ w)) ⊎ ((tail : List ℕ) × (u ≡ c ∷ tail) × (w ≡ tail ++ v))
cons-parts c w [] v h = inl (refl, sym h)
cons-parts c w (x ∷ u) v h = inr (u, cc, cc)

along : (P : List ℕ → Type 0) {u v : List ℕ} → u ≡ v → P u → P v
along P e h = subst P e h

-- no children at all are allowed exactly where the test says so
pub nullable_matches : (p : Particle ℕ) → is_nullable p ≡ true → Matches p []
nullable_matches (Name n) h = cc
nullable_matches (Joined Sequence p q) h =
    let both = and-true (is_nullable p) (is_nullable q) h in
    ([], [], refl, nullable_matches p both.0, nullable_matches q both.1)
nullable_matches (Joined Choice p q) h =
    elim (or-true (is_nullable p) (is_nullable q) h) [ inl l ↦ inl (nullable_matches p l) | inr r ↦ inr (nullable_matches q r) ]
nullable_matches (Repeated Optional p) h = inl refl
nullable_matches (Repeated ZeroOrMore p) h = ([], record { joined = refl; each = tt })
nullable_matches (Repeated OneOrMore p) h = ([], [], record { joined = refl; each = (nullable_matches p h, tt) })

pub matches_nullable : (p : Particle ℕ) → Matches p [] → is_nullable p ≡ true
matches_nullable (Name n) h = cc
matches_nullable (Joined Sequence p q) (u, v, e, hu, hv) =
    let parts = empty-parts u v e in
    true-and _ _ (matches_nullable p (along (Matches p) parts.0 hu)) (matches_nullable q (along (Matches q) parts.1 hv))
matches_nullable (Joined Choice p q) (inl h) = or-left _ _ (matches_nullable p h)
matches_nullable (Joined Choice p q) (inr h) = or-right _ _ (matches_nullable q h)
matches_nullable (Repeated Optional p) h = refl
matches_nullable (Repeated ZeroOrMore p) h = refl
matches_nullable (Repeated OneOrMore p) (first, others, h) =
    let parts = empty-parts first (concat others) h.joined in
    matches_nullable p (along (Matches p) parts.0 h.each.0)

-- pieces put behind a piece
many_more : (L : List ℕ → Type 0) (u v : List ℕ) → L u → Many L v → Many L (u ++ v)
many_more L u v h (pieces, all) = (u ∷ pieces, record { joined = ap (λ w. u ++ w) all.joined; each = (h, all.each) })

-- of pieces with a first child, the first that is not empty has it
many_first : (L : List ℕ → Type 0) (c : ℕ) (w : List ℕ) (pieces : List (List ℕ)) → c ∷ w ≡ concat pieces → AllByRecursion L pieces → (tail : List ℕ) × (back : List ℕ) × (w ≡ tail ++ back) × L (c ∷ tail) × Many L back
many_first L c w [] e h = cc
many_first L c w ([] ∷ pieces) e h = many_first L c w pieces e h.1
many_first L c w ((x ∷ u) ∷ pieces) e h =
    let same : x ∷ u ≡ c ∷ u = cc in
    (u, concat pieces, cc, along L same h.0, (pieces, record { joined = refl; each = h.1 }))

-- the children so far can end in the particle exactly where nothing need follow
pub final_rest : (q : Marked) → is_final q ≡ true → Rest q []
final_rest (Name x) h = (h, refl)
final_rest (Joined Sequence p q) h =
    elim (or-true (is_final q) (is_final p && is_nullable q) h) [
      | inl l ↦ inr (final_rest q l)
      | inr r ↦ (let both = and-true (is_final p) (is_nullable q) r in
          inl ([], [], refl, final_rest p both.0, nullable_matches (bare q) (is_nullable-bare _ q ∙ both.1)))
    ]
final_rest (Joined Choice p q) h =
    elim (or-true (is_final p) (is_final q) h) [ inl l ↦ inl (final_rest p l) | inr r ↦ inr (final_rest q r) ]
final_rest (Repeated Optional p) h = final_rest p h
final_rest (Repeated ZeroOrMore p) h = ([], [], refl, final_rest p h, ([], record { joined = refl; each = tt }))
final_rest (Repeated OneOrMore p) h = ([], [], refl, final_rest p h, ([], record { joined = refl; each = tt }))

pub rest_final : (q : Marked) → Rest q [] → is_final q ≡ true
rest_final (Name x) h = h.0
rest_final (Joined Sequence p q) (inl (u, v, e, hu, hv)) =
    let parts = empty-parts u v e in
    or-right (is_final q) _ (true-and _ _ (rest_final p (along (Rest p) parts.0 hu)) (sym (is_nullable-bare _ q) ∙ matches_nullable (bare q) (along (Matches (bare q)) parts.1 hv)))
rest_final (Joined Sequence p q) (inr h) = or-left _ _ (rest_final q h)
rest_final (Joined Choice p q) (inl h) = or-left _ _ (rest_final p h)
rest_final (Joined Choice p q) (inr h) = or-right _ _ (rest_final q h)
rest_final (Repeated Optional p) h = rest_final p h
rest_final (Repeated ZeroOrMore p) (u, v, e, hu, hv) = rest_final p (along (Rest p) (empty-parts u v e).0 hu)
rest_final (Repeated OneOrMore p) (u, v, e, hu, hv) = rest_final p (along (Rest p) (empty-parts u v e).0 hu)

along_particle : {p q : Particle ℕ} → p ≡ q → (w : List ℕ) → Matches p w → Matches q w
along_particle e w h = subst (λ (x : Particle ℕ). Matches x w) e h

back_particle : {p q : Particle ℕ} → p ≡ q → (w : List ℕ) → Matches q w → Matches p w
back_particle e w h = subst (λ (x : Particle ℕ). Matches x w) (sym e) h

along_many : {p q : Particle ℕ} → p ≡ q → (w : List ℕ) → Many (Matches p) w → Many (Matches q) w
along_many e w h = subst (λ (x : Particle ℕ). Many (Matches x) w) e h

back_many : {p q : Particle ℕ} → p ≡ q → (w : List ℕ) → Many (Matches q) w → Many (Matches p) w
back_many e w h = subst (λ (x : Particle ℕ). Many (Matches x) w) (sym e) h

-- a repetition goes on in its part, or with the next one where the part can end
repeated_shift : (c : ℕ) (m : Bool) (p : Marked) (w : List ℕ) → Then (Rest p) (Many (Matches (bare p))) (c ∷ w)
    → ((u : List ℕ) → Live (m || is_final p) p (c ∷ u) → Rest (shift c (m || is_final p) p) u)
    → Then (Rest (shift c (m || is_final p) p)) (Many (Matches (bare (shift c (m || is_final p) p)))) w
repeated_shift c m p w (u, v, e, hu, hv) go =
    let same = bare-shift c (m || is_final p) p in
    elim (cons-parts c w u v e) [
      | inl l ↦ (let cut = many_first (Matches (bare p)) c w hv.0 (sym l.1 ∙ hv.1.joined) hv.1.each in
          (cut.0, cut.1, cut.2, go cut.0 (inl (or-right m _ (rest_final p (along (Rest p) l.0 hu)), cut.3)), back_many same cut.1 cut.4))
      | inr r ↦ (r.0, v, r.2, go r.0 (inr (along (Rest p) r.1 hu)), back_many same v hv)
    ]

-- what is left after a child leads on from a mark or from the beginning
pub shift_live : (c : ℕ) (m : Bool) (q : Marked) (w : List ℕ) → Rest (shift c m q) w → Live m q (c ∷ w)
shift_live c m (Name x) w (marked, e) =
    let both = and-true m (x.0 == c) marked in
    let same : x.0 ≡ c = eqb-true x.0 c both.1 in
    inl (both.0, cc)
shift_live c m (Joined Sequence p q) w (inl (u, v, e, hu, hv)) =
    let back = along_particle (bare-shift c (m && is_nullable p || is_final p) q) v hv in
    let whole : c ∷ w ≡ (c ∷ u) ++ v = ap (λ l. c ∷ l) e in
    elim (shift_live c m p u hu) [
      | inl l ↦ inl (l.0, (c ∷ u, v, whole, l.1, back))
      | inr r ↦ inr (inl (c ∷ u, v, whole, r, back))
    ]
shift_live c m (Joined Sequence p q) w (inr h) =
    elim (shift_live c (m && is_nullable p || is_final p) q w h) [
      | inl l ↦ elim (or-true (m && is_nullable p) (is_final p) l.0) [
        | inl a ↦ (let both = and-true m (is_nullable p) a in
            inl (both.0, ([], c ∷ w, refl, nullable_matches (bare p) (is_nullable-bare _ p ∙ both.1), l.1)))
        | inr b ↦ inr (inl ([], c ∷ w, refl, final_rest p b, l.1))
      ]
      | inr r ↦ inr (inr r)
    ]
shift_live c m (Joined Choice p q) w (inl h) = elim (shift_live c m p w h) [ inl l ↦ inl (l.0, inl l.1) | inr r ↦ inr (inl r) ]
shift_live c m (Joined Choice p q) w (inr h) = elim (shift_live c m q w h) [ inl l ↦ inl (l.0, inr l.1) | inr r ↦ inr (inr r) ]
shift_live c m (Repeated Optional p) w h = elim (shift_live c m p w h) [ inl l ↦ inl (l.0, inr l.1) | inr r ↦ inr r ]
shift_live c m (Repeated ZeroOrMore p) w (u, v, e, hu, hv) =
    let back = along_many (bare-shift c (m || is_final p) p) v hv in
    let whole : c ∷ w ≡ (c ∷ u) ++ v = ap (λ l. c ∷ l) e in
    elim (shift_live c (m || is_final p) p u hu) [
      | inl l ↦ (let all = along (Many (Matches (bare p))) (sym whole) (many_more (Matches (bare p)) (c ∷ u) v l.1 back) in
          elim (or-true m (is_final p) l.0) [ inl a ↦ inl (a, all) | inr b ↦ inr ([], c ∷ w, refl, final_rest p b, all) ])
      | inr r ↦ inr (c ∷ u, v, whole, r, back)
    ]
shift_live c m (Repeated OneOrMore p) w (u, v, e, hu, hv) =
    let back = along_many (bare-shift c (m || is_final p) p) v hv in
    let whole : c ∷ w ≡ (c ∷ u) ++ v = ap (λ l. c ∷ l) e in
    elim (shift_live c (m || is_final p) p u hu) [
      | inl l ↦ elim (or-true m (is_final p) l.0) [
        | inl a ↦ inl (a, (c ∷ u, back.0, record { joined = whole ∙ ap (λ l. (c ∷ u) ++ l) back.1.joined; each = (l.1, back.1.each) }))
        | inr b ↦ inr ([], c ∷ w, refl, final_rest p b, along (Many (Matches (bare p))) (sym whole) (many_more (Matches (bare p)) (c ∷ u) v l.1 back))
      ]
      | inr r ↦ inr (c ∷ u, v, whole, r, back)
    ]

-- and what leads on from there is left after the child
pub live_shift : (c : ℕ) (m : Bool) (q : Marked) (w : List ℕ) → Live m q (c ∷ w) → Rest (shift c m q) w
live_shift c m (Name x) w (inl (begins, e)) =
    let same : x.0 ≡ c = cc in
    let none : w ≡ [] = cc in
    (true-and m (x.0 == c) begins (eq-eqb x.0 c same), none)
live_shift c m (Name x) w (inr (marked, e)) = cc
live_shift c m (Joined Sequence p q) w (inl (begins, (u, v, e, hu, hv))) =
    let later = m && is_nullable p || is_final p in
    elim (cons-parts c w u v e) [
      | inl l ↦ inr (live_shift c later q w (inl (or-left _ _ (true-and _ _ begins (sym (is_nullable-bare _ p) ∙ matches_nullable (bare p) (along (Matches (bare p)) l.0 hu))), along (Matches (bare q)) l.1 hv)))
      | inr r ↦ inl (r.0, v, r.2, live_shift c m p r.0 (inl (begins, along (Matches (bare p)) r.1 hu)), back_particle (bare-shift c later q) v hv)
    ]
live_shift c m (Joined Sequence p q) w (inr (inl (u, v, e, hu, hv))) =
    let later = m && is_nullable p || is_final p in
    elim (cons-parts c w u v e) [
      | inl l ↦ inr (live_shift c later q w (inl (or-right (m && is_nullable p) _ (rest_final p (along (Rest p) l.0 hu)), along (Matches (bare q)) l.1 hv)))
      | inr r ↦ inl (r.0, v, r.2, live_shift c m p r.0 (inr (along (Rest p) r.1 hu)), back_particle (bare-shift c later q) v hv)
    ]
live_shift c m (Joined Sequence p q) w (inr (inr h)) = inr (live_shift c (m && is_nullable p || is_final p) q w (inr h))
live_shift c m (Joined Choice p q) w (inl (begins, (inl h))) = inl (live_shift c m p w (inl (begins, h)))
live_shift c m (Joined Choice p q) w (inl (begins, (inr h))) = inr (live_shift c m q w (inl (begins, h)))
live_shift c m (Joined Choice p q) w (inr (inl h)) = inl (live_shift c m p w (inr h))
live_shift c m (Joined Choice p q) w (inr (inr h)) = inr (live_shift c m q w (inr h))
live_shift c m (Repeated Optional p) w (inl (begins, (inl e))) = cc
live_shift c m (Repeated Optional p) w (inl (begins, (inr h))) = live_shift c m p w (inl (begins, h))
live_shift c m (Repeated Optional p) w (inr h) = live_shift c m p w (inr h)
live_shift c m (Repeated ZeroOrMore p) w (inl (begins, (pieces, all))) =
    let cut = many_first (Matches (bare p)) c w pieces all.joined all.each in
    let later = m || is_final p in
    (cut.0, cut.1, cut.2, live_shift c later p cut.0 (inl (or-left _ _ begins, cut.3)), back_many (bare-shift c later p) cut.1 cut.4)
live_shift c m (Repeated ZeroOrMore p) w (inr h) = repeated_shift c m p w h (λ u k. live_shift c (m || is_final p) p u k)
live_shift c m (Repeated OneOrMore p) w (inl (begins, (first, others, all))) =
    let cut = many_first (Matches (bare p)) c w (first ∷ others) all.joined all.each in
    let later = m || is_final p in
    (cut.0, cut.1, cut.2, live_shift c later p cut.0 (inl (or-left _ _ begins, cut.3)), back_many (bare-shift c later p) cut.1 cut.4)
live_shift c m (Repeated OneOrMore p) w (inr h) = repeated_shift c m p w h (λ u k. live_shift c (m || is_final p) p u k)

-- nothing is left after no mark
pub none_left : (p : Particle ℕ) (w : List ℕ) → Rest (renamed (λ n. (n, false)) p) w → ⊥
none_left (Name n) w h = let e : false ≡ true = h.0 in cc
none_left (Joined Sequence p q) w (inl (u, v, e, hu, hv)) = none_left p u hu
none_left (Joined Sequence p q) w (inr h) = none_left q w h
none_left (Joined Choice p q) w (inl h) = none_left p w h
none_left (Joined Choice p q) w (inr h) = none_left q w h
none_left (Repeated Optional p) w h = none_left p w h
none_left (Repeated ZeroOrMore p) w (u, v, e, hu, hv) = none_left p u hu
none_left (Repeated OneOrMore p) w (u, v, e, hu, hv) = none_left p u hu
