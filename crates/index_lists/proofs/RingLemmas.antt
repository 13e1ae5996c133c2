-- What the links of one side say of its lists, when one link or another is set.
use Rattle.std.proofs.Common.{◌≡◌, ℕ, zero, suc, ◌+◌, ◌<◌, ◌≤◌, cond, List, [], ◌∷◌, ◌++◌, length, Option, Some, None, inl, inr, refl, sym, ap, ◌∙◌, subst, le_trans, arith}
use Rattle.std.proofs.lemmas.Bool.{cases_eq, cases_lt, eq-eqb, ne_eqb}
use Rattle.index_lists.specs.Lists.{times, without}
use Rattle.index_lists.specs.Side.{is_in}
use Rattle.index_lists.specs.Rings.{Spot, edge, inner, spot, walk, IsOnRing, Leads, IsLinked}
use Rattle.index_lists.proofs.Times.{times_here, times_there, ne_from_times, times_rest, without_here, without_there, without_absent, length_within}

-- each of these places stands in list l
abbrev pub AllOn : (ℕ → Option ℕ) → ℕ → List ℕ → Type 0
AllOn o l [] = Unit {0}
AllOn o l (p ∷ ps) = (o p ≡ Some l) × AllOn o l ps

all_on : (o : ℕ → Option ℕ) (l : ℕ) (ps : List ℕ) → ((p : ℕ) → 1 ≤ times p ps → o p ≡ Some l) → AllOn o l ps
all_on o l [] h = tt
all_on o l (p ∷ ps) h = (
  h p (rw (times_here p ps) (omega arith)),
  all_on o l ps (λ q m. h q (le_trans m (times_rest q p ps))),
)

-- ---- how often a place is to stand in a list, by its owner

abbrev pub due : Option ℕ → ℕ → ℕ
due k l = cond (is_in k l) 1 0

pub due_own : (l : ℕ) → due (Some l) l ≡ 1
due_own l = rw (eq-eqb l l refl)

pub due_other : (k l : ℕ) → (k ≡ l → ⊥) → due (Some k) l ≡ 0
due_other k l ne = rw (ne_eqb k l ne)

due_le : (k : Option ℕ) (l : ℕ) → due k l ≤ 1
due_le None l = omega arith
due_le (Some k) l = elim (cases_eq k l) [
  | inl e ↦ subst (λ m. due (Some k) m ≤ 1) e (rw (due_own k) (omega arith))
  | inr ne ↦ rw (due_other k l ne) (omega arith)
]

pub owner_from_due : (k : Option ℕ) (l : ℕ) → 1 ≤ due k l → k ≡ Some l
owner_from_due None l h = absurd (omega arith)
owner_from_due (Some k) l h = elim (cases_eq k l) [
  | inl e ↦ ap Some e
  | inr ne ↦ absurd (let none : due (Some k) l ≡ 0 = due_other k l ne in omega (arith, h, none))
]

-- ---- spots

pub inner-inner : (p q : ℕ) → inner p ≡ inner q → p ≡ q
inner-inner p q e = cc

pub edge-edge : (k l : ℕ) → edge k ≡ edge l → k ≡ l
edge-edge k l e = cc

-- spots of different lists are apart
pub spots_apart : (o : ℕ → Option ℕ) (k l : ℕ) (x y : Option ℕ) → IsOnRing o k x → IsOnRing o l y → (k ≡ l → ⊥) → spot k x ≡ spot l y → ⊥
spots_apart o k l None None on on' ne e = ne (edge-edge k l e)
spots_apart o k l None (Some q) on on' ne e = cc
spots_apart o k l (Some p) None on on' ne e = cc
spots_apart o k l (Some p) (Some q) on on' ne e =
    let same : p ≡ q = inner-inner p q e in
    let owners : Some k ≡ Some l = sym on ∙ ap o same ∙ on' in
    ne (cc)

-- a place that stands in no list is no spot of a list
pub not_free : (o : ℕ → Option ℕ) (l p : ℕ) (x : Option ℕ) → IsOnRing o l x → o p ≡ None → spot l x ≡ inner p → ⊥
not_free o l p None on free e = cc
not_free o l p (Some q) on free e =
    let same : q ≡ p = inner-inner q p e in
    let owners : Some l ≡ None = sym on ∙ ap o same ∙ free in
    cc

-- ---- the links forward

module _ (f g : Spot → Option ℕ) (o : ℕ → Option ℕ) (l : ℕ) where
  pub leads_same : (ps : List ℕ) (x : Option ℕ) → IsOnRing o l x → AllOn o l ps → ((y : Option ℕ) → IsOnRing o l y → g (spot l y) ≡ f (spot l y)) → Leads f l x ps → Leads g l x ps
  leads_same [] x on all same h = same x on ∙ h
  leads_same (p ∷ ps) x on all same h = (same x on ∙ h.0, leads_same ps (Some p) all.0 all.1 same h.1)

  -- the links forward come to an end
  leads_end : (ps : List ℕ) (x : Option ℕ) → IsOnRing o l x → AllOn o l ps → Leads f l x ps → (e : Option ℕ) × IsOnRing o l e × (f (spot l e) ≡ None)
  leads_end [] x on all h = (x, on, h)
  leads_end (p ∷ ps) x on all h = leads_end ps (Some p) all.0 all.1 h.1

  -- the first step stays in the list
  leads_on : (ps : List ℕ) (x : Option ℕ) → AllOn o l ps → Leads f l x ps → IsOnRing o l (f (spot l x))
  leads_on [] x all h = subst (λ y. IsOnRing o l y) (sym h) tt
  leads_on (p ∷ ps) x all h = subst (λ y. IsOnRing o l y) (sym h.0) all.0

  -- a place more at the end
  pub leads_push : (p : ℕ) (ps : List ℕ) (x : Option ℕ) → IsOnRing o l x → AllOn o l ps →
      ((y : Option ℕ) → IsOnRing o l y → f (spot l y) ≡ None → g (spot l y) ≡ Some p) →
      ((y : Option ℕ) (q : ℕ) → IsOnRing o l y → f (spot l y) ≡ Some q → g (spot l y) ≡ Some q) →
      g (inner p) ≡ None → Leads f l x ps → Leads g l x (ps ++ p ∷ [])
  leads_push p [] x on all last kept end h = (last x on h, end)
  leads_push p (q ∷ ps) x on all last kept end h = (kept x q on h.0, leads_push p ps (Some q) all.0 all.1 last kept end h.1)

  -- past a place that is left out, the links are as before
  leads_rest : (p : ℕ) (ps : List ℕ) (x : Option ℕ) → IsOnRing o l x → AllOn o l ps → (x ≡ Some p → ⊥) → times p ps ≡ 0 →
      ((y : Option ℕ) → IsOnRing o l y → (y ≡ Some p → ⊥) → (f (spot l y) ≡ Some p → ⊥) → g (spot l y) ≡ f (spot l y)) →
      Leads f l x ps → Leads g l x ps
  leads_rest p [] x on all ne none kept h = kept x on ne (λ e. let bad : None ≡ Some p = sym h ∙ e in cc) ∙ h
  leads_rest p (q ∷ ps) x on all ne none kept h =
      let apart : q ≡ p → ⊥ = ne_from_times p q ps none in
      let fresh : (Some q ≡ Some p → ⊥) = λ e. apart (cc) in (
        kept x on ne (λ e. fresh (sym h.0 ∙ e)) ∙ h.0,
        leads_rest p ps (Some q) all.0 all.1 fresh (sym (times_there p q ps apart) ∙ none) kept h.1,
      )

  -- a place left out
  pub leads_without : (p : ℕ) (ps : List ℕ) (x : Option ℕ) → IsOnRing o l x → AllOn o l ps → (x ≡ Some p → ⊥) → times p ps ≤ 1 →
      ((y : Option ℕ) → IsOnRing o l y → (y ≡ Some p → ⊥) → (f (spot l y) ≡ Some p → ⊥) → g (spot l y) ≡ f (spot l y)) →
      ((y : Option ℕ) → IsOnRing o l y → (y ≡ Some p → ⊥) → f (spot l y) ≡ Some p → g (spot l y) ≡ f (inner p)) →
      Leads f l x ps → Leads g l x (without p ps)
  leads_without p [] x on all ne once kept jump h = kept x on ne (λ e. let bad : None ≡ Some p = sym h ∙ e in cc) ∙ h
  leads_without p (q ∷ ps) x on all ne once kept jump h = elim (cases_eq q p) [
    | inl e ↦
        let here : times q (q ∷ ps) ≡ times q ps + 1 = times_here q ps in
        let once' : times q (q ∷ ps) ≤ 1 = subst (λ r. times r (q ∷ ps) ≤ 1) (sym e) once in
        let none : times p ps ≡ 0 = subst (λ r. times r ps ≡ 0) e (omega (arith, here, once')) in
        let stays : without p (q ∷ ps) ≡ ps = subst (λ r. without r (q ∷ ps) ≡ without r ps) e (without_here q ps) ∙ without_absent p ps none in
        subst (λ rs. Leads g l x rs) (sym stays) (skip p ps x on all.1 ne none kept (jump x on ne (h.0 ∙ ap Some e)) (subst (λ r. Leads f l (Some r) ps) e h.1))
    | inr apart ↦
        let fresh : (Some q ≡ Some p → ⊥) = λ e. apart (cc) in
        let once' : times p ps ≤ 1 = subst (λ n. n ≤ 1) (times_there p q ps apart) once in
        subst (λ rs. Leads g l x rs) (sym (without_there p q ps apart)) (
          kept x on ne (λ e. fresh (sym h.0 ∙ e)) ∙ h.0,
          leads_without p ps (Some q) all.0 all.1 fresh once' kept jump h.1,
        )
  ] where
    skip : (p : ℕ) (ps : List ℕ) (x : Option ℕ) → IsOnRing o l x → AllOn o l ps → (x ≡ Some p → ⊥) → times p ps ≡ 0 →
        ((y : Option ℕ) → IsOnRing o l y → (y ≡ Some p → ⊥) → (f (spot l y) ≡ Some p → ⊥) → g (spot l y) ≡ f (spot l y)) →
        g (spot l x) ≡ f (inner p) → Leads f l (Some p) ps → Leads g l x ps
    skip p [] x on all ne none kept e h = e ∙ h
    skip p (q ∷ ps) x on all ne none kept e h =
        let apart : q ≡ p → ⊥ = ne_from_times p q ps none in
        (e ∙ h.0, leads_rest p ps (Some q) all.0 all.1 (λ i. apart (cc)) (sym (times_there p q ps apart) ∙ none) kept h.1)

-- what is before and after a place of list l: something leads to it, and it leads on, not to itself
pub record Around (f : Spot → Option ℕ) (o : ℕ → Option ℕ) (l p : ℕ) : Type 0 where
  pub from : Option ℕ
  pub on : IsOnRing o l from
  pub apart : from ≡ Some p → ⊥
  pub leads : f (spot l from) ≡ Some p
  pub onward : f (inner p) ≡ Some p → ⊥
  pub next_on : IsOnRing o l (f (inner p))

onward_from : (f : Spot → Option ℕ) (l p : ℕ) (ps : List ℕ) → times p ps ≡ 0 → Leads f l (Some p) ps → f (inner p) ≡ Some p → ⊥
onward_from f l p [] none h e = let bad : None ≡ Some p = sym h ∙ e in cc
onward_from f l p (q ∷ ps) none h e = let bad : Some q ≡ Some p = sym h.0 ∙ e in ne_from_times p q ps none (cc)

around : (f : Spot → Option ℕ) (o : ℕ → Option ℕ) (l p : ℕ) (ps : List ℕ) (x : Option ℕ) → IsOnRing o l x → AllOn o l ps → (x ≡ Some p → ⊥) → times p ps ≡ 1 → Leads f l x ps → Around f o l p
around f o l p [] x on all ne one h = absurd (omega (arith, one))
around f o l p (q ∷ ps) x on all ne one h = elim (cases_eq q p) [
  | inl e ↦
      let here : times q (q ∷ ps) ≡ times q ps + 1 = times_here q ps in
      let one' : times q (q ∷ ps) ≡ 1 = subst (λ r. times r (q ∷ ps) ≡ 1) (sym e) one in
      let none : times p ps ≡ 0 = subst (λ r. times r ps ≡ 0) e (omega (arith, here, one')) in
      let rest : Leads f l (Some p) ps = subst (λ r. Leads f l (Some r) ps) e h.1 in
      record {
        from = x;
        on = on;
        apart = ne;
        leads = h.0 ∙ ap Some e;
        onward = onward_from f l p ps none rest;
        next_on = leads_on f f o l ps (Some p) all.1 rest;
      }
  | inr apart ↦ around f o l p ps (Some q) all.0 all.1 (λ e. apart (cc)) (sym (times_there p q ps apart) ∙ one) h.1
]

-- ---- what follows where the links are sound

module _ (f g : Spot → Option ℕ) (o : ℕ → Option ℕ) (xs : ℕ → List ℕ) (n : ℕ) (sound : IsLinked f g o xs n) where
  pub all_of : (l : ℕ) → AllOn o l (xs l)
  all_of l = all_on o l (xs l) (λ p m. owner_from_due (o p) l (subst (λ c. 1 ≤ c) (sound.once l p) m))

  pub at_most_once : (l p : ℕ) → times p (xs l) ≤ 1
  at_most_once l p = subst (λ c. c ≤ 1) (sym (sound.once l p)) (due_le (o p) l)

  pub once_own : (l p : ℕ) → o p ≡ Some l → times p (xs l) ≡ 1
  once_own l p own = sound.once l p ∙ ap (λ k. due k l) own ∙ due_own l

  pub none_free : (l p : ℕ) → o p ≡ None → times p (xs l) ≡ 0
  none_free l p free = sound.once l p ∙ ap (λ k. due k l) free

  -- a list with a place is one of the n lists
  pub own_within : (l p : ℕ) → o p ≡ Some l → l < n
  own_within l p own = elim (cases_lt l n) [
    | inl within ↦ within
    | inr past ↦ absurd (let one : times p (xs l) ≡ 1 = once_own l p own in let none : times p (xs l) ≡ 0 = ap (times p) (sound.past l past) in omega (arith, one, none))
  ]

  pub around_of : (l p : ℕ) → o p ≡ Some l → Around f o l p
  around_of l p own = around f o l p (xs l) None tt (all_of l) (λ e. cc) (once_own l p own) (sound.leads l (own_within l p own))

  pub next_on : (l : ℕ) → l < n → (x : Option ℕ) → IsOnRing o l x → IsOnRing o l (f (spot l x))
  next_on l within None on = leads_on f f o l (xs l) None (all_of l) (sound.leads l within)
  next_on l within (Some p) on = (around_of l p on).next_on

  pub back_of : (l : ℕ) (x y : Option ℕ) → l < n → IsOnRing o l x → f (spot l x) ≡ y → g (spot l y) ≡ x
  back_of l x y within on e = subst (λ w. g (spot l w) ≡ x) e (sound.back l x within on)

  -- the link back from the edge is to the end of the list
  pub last_of : (l : ℕ) → l < n → IsOnRing o l (g (edge l)) × (f (spot l (g (edge l))) ≡ None)
  last_of l within =
      let end : (e : Option ℕ) × IsOnRing o l e × (f (spot l e) ≡ None) = leads_end f f o l (xs l) None tt (all_of l) (sound.leads l within) in
      let is : g (edge l) ≡ end.0 = back_of l end.0 None within end.1 end.2 in
      subst (λ e. IsOnRing o l e × (f (spot l e) ≡ None)) (sym is) (end.1, end.2)

  -- the link back from a place is on its list, and leads forward to it
  pub before_of : (l p : ℕ) → o p ≡ Some l → IsOnRing o l (g (inner p)) × (f (spot l (g (inner p))) ≡ Some p) × (g (inner p) ≡ Some p → ⊥)
  before_of l p own =
      let a : Around f o l p = around_of l p own in
      let is : g (inner p) ≡ a.from = back_of l a.from (Some p) (own_within l p own) a.on a.leads in
      subst (λ e. IsOnRing o l e × (f (spot l e) ≡ Some p) × (e ≡ Some p → ⊥)) (sym is) (a.on, a.leads, a.apart)

  -- walking list l from its first place gives the list, where n steps are at least as many as there are places
  pub linked_walk : (steps : ℕ) → ((p l : ℕ) → o p ≡ Some l → p < steps) → (l : ℕ) → l < n → walk (λ p. f (inner p)) steps (f (edge l)) ≡ xs l
  linked_walk steps few l within =
      walk_leads (xs l) None steps (sound.leads l within) (length_within (xs l) steps (at_most_once l) (λ p m. few p l (owner_from_due (o p) l (subst (λ c. 1 ≤ c) (sound.once l p) m))))
    where
      walk_none : (m : ℕ) → walk (λ p. f (inner p)) m None ≡ []
      walk_none zero = refl
      walk_none (suc m) = refl

      walk_leads : (ps : List ℕ) (x : Option ℕ) (m : ℕ) → Leads f l x ps → length ps ≤ m → walk (λ p. f (inner p)) m (f (spot l x)) ≡ ps
      walk_leads [] x m h le = ap (walk (λ p. f (inner p)) m) h ∙ walk_none m
      walk_leads (p ∷ ps) x zero h le = absurd (omega (arith, le))
      walk_leads (p ∷ ps) x (suc m) h le = ap (walk (λ p. f (inner p)) (suc m)) h.0 ∙ ap (λ qs. p ∷ qs) (walk_leads ps (Some p) m h.1 (omega (arith, le)))
