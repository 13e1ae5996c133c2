-- The two passes over the nodes of a marked particle are one shift of its marks.
use Rattle.std.proofs.Common.{◌≡◌, ℕ, Bool, false, ◌&&◌, ◌||◌, List, [], ◌∷◌, ◌++◌, sym, refl, ap, ◌∙◌, append_assoc, fold, reverse}
use Rattle.std.proofs.lemmas.List.{reverse-append, reverse-reverse, append-nil}
use Rattle.content_model.specs.declared.particle.Separator.TheVariants.{Sequence, Choice}
use Rattle.content_model.specs.declared.particle.Occurrence.TheVariants.{Optional, ZeroOrMore, OneOrMore}
use Rattle.content_model.specs.declared.particle.Node.{Node}
use Rattle.content_model.specs.declared.particle.Node.TheVariants as node
use Rattle.content_model.specs.declared.stack.Stacks.{Stacks}
use Rattle.content_model.specs.Particle.{Particle, Name, Joined, Repeated, renamed}
use Rattle.content_model.specs.Passes.{is_nullable, nodes_of, reach_node, settle_node}
use Rattle.content_model.proofs.Marked.{Marked, bare, is_final, shift, is_nullable-bare, bare-shift}

-- three stacks
abbrev pub stacks : List Bool → List Bool → List Bool → Stacks
stacks k r e = record { kept = k; reached = r; ends = e }

-- what the nodes of a marked particle keep, the last node first
abbrev pub kept_of : Marked → List Bool
kept_of (Name x) = x.1 ∷ []
kept_of (Joined s p q) = is_final p ∷ (kept_of q ++ kept_of p)
kept_of (Repeated o p) = is_final p ∷ kept_of p

-- the marks of its nodes, the first node first
abbrev pub marks_of : Marked → List Bool
marks_of (Name x) = x.1 ∷ []
marks_of (Joined s p q) = marks_of p ++ (marks_of q ++ false ∷ [])
marks_of (Repeated o p) = marks_of p ++ false ∷ []

-- its nodes, the first node first
abbrev pub forward : {A : Type 0} → (A → ℕ) → Particle A → List Node
forward f (Name a) = node.Name (f a) ∷ []
forward f (Joined Sequence p q) = forward f p ++ (forward f q ++ node.Sequence (is_nullable p) (is_nullable q) ∷ [])
forward f (Joined Choice p q) = forward f p ++ (forward f q ++ node.Choice ∷ [])
forward f (Repeated o p) = forward f p ++ node.Repeated o ∷ []

-- the particle, with no name marked
abbrev pub unmarked : Particle ℕ → Marked
unmarked p = renamed (λ n. (n, false)) p

turned : (x : Node) (a b c d : List Node) → reverse a ≡ c → reverse b ≡ d → reverse (x ∷ (b ++ a)) ≡ c ++ (d ++ x ∷ [])
turned x a b c d e h = reverse-append (x ∷ []) (b ++ a) ∙ ap (λ l. l ++ x ∷ []) (reverse-append b a ∙ ap (λ l. l ++ reverse b) e ∙ ap (λ l. c ++ l) h) ∙ append_assoc c d (x ∷ [])

pub reverse-nodes_of : {A : Type 0} (f : A → ℕ) (p : Particle A) → reverse (nodes_of f p) ≡ forward f p
reverse-nodes_of f (Name a) = refl
reverse-nodes_of f (Joined Sequence p q) = turned _ (nodes_of f p) (nodes_of f q) _ _ (reverse-nodes_of f p) (reverse-nodes_of f q)
reverse-nodes_of f (Joined Choice p q) = turned _ (nodes_of f p) (nodes_of f q) _ _ (reverse-nodes_of f p) (reverse-nodes_of f q)
reverse-nodes_of f (Repeated o p) = reverse-append (node.Repeated o ∷ []) (nodes_of f p) ∙ ap (λ l. l ++ node.Repeated o ∷ []) (reverse-nodes_of f p)

-- the nodes of a particle with other names
pub nodes_of-renamed : {A B : Type 0} (f : B → ℕ) (g : A → B) (p : Particle A) → nodes_of f (renamed g p) ≡ nodes_of (λ a. f (g a)) p
nodes_of-renamed f g (Name a) = refl
nodes_of-renamed f g (Joined Sequence p q) = cc (nodes_of-renamed f g p, nodes_of-renamed f g q, is_nullable-bare g p, is_nullable-bare g q)
nodes_of-renamed f g (Joined Choice p q) = cc (nodes_of-renamed f g p, nodes_of-renamed f g q)
nodes_of-renamed f g (Repeated o p) = cc (nodes_of-renamed f g p)

-- the number of a name that has a mark
abbrev pub number : ℕ × Bool → ℕ
number x = x.0

regrouped : {A : Type 0} (a b c : List A) (x : A) → a ++ (b ++ x ∷ c) ≡ (a ++ (b ++ x ∷ [])) ++ c
regrouped a b c x = sym (append_assoc a (b ++ x ∷ []) c ∙ ap (λ l. a ++ l) (append_assoc b (x ∷ []) c))

-- the first pass
pub reach-particle : (c : ℕ) (m : Bool) (q : Marked) (k r e : List Bool) (ns : List Node)
    → fold (reach_node c) (stacks (kept_of q ++ k) r (m ∷ e)) (nodes_of number q ++ ns) ≡ fold (reach_node c) (stacks k (marks_of (shift c m q) ++ r) e) ns
reach-particle c m (Name x) k r e ns = refl
reach-particle c m (Joined Sequence p q) k r e ns =
    let begins = m && is_nullable p || is_final p in
    ap (λ ks. fold (reach_node c) (stacks ks (false ∷ r) (begins ∷ m ∷ e)) ((nodes_of number q ++ nodes_of number p) ++ ns)) (append_assoc (kept_of q) (kept_of p) k)
    ∙ ap (λ xs. fold (reach_node c) (stacks (kept_of q ++ (kept_of p ++ k)) (false ∷ r) (begins ∷ m ∷ e)) xs) (append_assoc (nodes_of number q) (nodes_of number p) ns)
    ∙ reach-particle c begins q (kept_of p ++ k) (false ∷ r) (m ∷ e) (nodes_of number p ++ ns)
    ∙ reach-particle c m p k (marks_of (shift c begins q) ++ false ∷ r) e ns
    ∙ ap (λ rs. fold (reach_node c) (stacks k rs e) ns) (regrouped (marks_of (shift c m p)) (marks_of (shift c begins q)) r false)
reach-particle c m (Joined Choice p q) k r e ns =
    ap (λ ks. fold (reach_node c) (stacks ks (false ∷ r) (m ∷ m ∷ e)) ((nodes_of number q ++ nodes_of number p) ++ ns)) (append_assoc (kept_of q) (kept_of p) k)
    ∙ ap (λ xs. fold (reach_node c) (stacks (kept_of q ++ (kept_of p ++ k)) (false ∷ r) (m ∷ m ∷ e)) xs) (append_assoc (nodes_of number q) (nodes_of number p) ns)
    ∙ reach-particle c m q (kept_of p ++ k) (false ∷ r) (m ∷ e) (nodes_of number p ++ ns)
    ∙ reach-particle c m p k (marks_of (shift c m q) ++ false ∷ r) e ns
    ∙ ap (λ rs. fold (reach_node c) (stacks k rs e) ns) (regrouped (marks_of (shift c m p)) (marks_of (shift c m q)) r false)
reach-particle c m (Repeated Optional p) k r e ns =
    reach-particle c m p k (false ∷ r) e ns
    ∙ ap (λ rs. fold (reach_node c) (stacks k rs e) ns) (sym (append_assoc (marks_of (shift c m p)) (false ∷ []) r))
reach-particle c m (Repeated ZeroOrMore p) k r e ns =
    reach-particle c (m || is_final p) p k (false ∷ r) e ns
    ∙ ap (λ rs. fold (reach_node c) (stacks k rs e) ns) (sym (append_assoc (marks_of (shift c (m || is_final p) p)) (false ∷ []) r))
reach-particle c m (Repeated OneOrMore p) k r e ns =
    reach-particle c (m || is_final p) p k (false ∷ r) e ns
    ∙ ap (λ rs. fold (reach_node c) (stacks k rs e) ns) (sym (append_assoc (marks_of (shift c (m || is_final p) p)) (false ∷ []) r))

-- the second pass
pub settle-particle : (q : Marked) (k r e : List Bool) (ns : List Node)
    → fold settle_node (stacks k (marks_of q ++ r) e) (forward number q ++ ns) ≡ fold settle_node (stacks (kept_of q ++ k) r (is_final q ∷ e)) ns
settle-particle (Name x) k r e ns = refl
settle-particle (Joined Sequence p q) k r e ns =
    let last = node.Sequence (is_nullable p) (is_nullable q) in
    ap (λ rs. fold settle_node (stacks k rs e) ((forward number p ++ (forward number q ++ last ∷ [])) ++ ns)) (sym (regrouped (marks_of p) (marks_of q) r false))
    ∙ ap (λ xs. fold settle_node (stacks k (marks_of p ++ (marks_of q ++ false ∷ r)) e) xs) (sym (regrouped (forward number p) (forward number q) ns last))
    ∙ settle-particle p k (marks_of q ++ false ∷ r) e (forward number q ++ last ∷ ns)
    ∙ settle-particle q (kept_of p ++ k) (false ∷ r) (is_final p ∷ e) (last ∷ ns)
    ∙ ap (λ ks. fold settle_node (stacks (is_final p ∷ ks) r ((is_final q || is_final p && is_nullable q) ∷ e)) ns) (sym (append_assoc (kept_of q) (kept_of p) k))
settle-particle (Joined Choice p q) k r e ns =
    ap (λ rs. fold settle_node (stacks k rs e) ((forward number p ++ (forward number q ++ node.Choice ∷ [])) ++ ns)) (sym (regrouped (marks_of p) (marks_of q) r false))
    ∙ ap (λ xs. fold settle_node (stacks k (marks_of p ++ (marks_of q ++ false ∷ r)) e) xs) (sym (regrouped (forward number p) (forward number q) ns node.Choice))
    ∙ settle-particle p k (marks_of q ++ false ∷ r) e (forward number q ++ node.Choice ∷ ns)
    ∙ settle-particle q (kept_of p ++ k) (false ∷ r) (is_final p ∷ e) (node.Choice ∷ ns)
    ∙ ap (λ ks. fold settle_node (stacks (is_final p ∷ ks) r ((is_final p || is_final q) ∷ e)) ns) (sym (append_assoc (kept_of q) (kept_of p) k))
settle-particle (Repeated o p) k r e ns =
    ap (λ rs. fold settle_node (stacks k rs e) ((forward number p ++ node.Repeated o ∷ []) ++ ns)) (append_assoc (marks_of p) (false ∷ []) r)
    ∙ ap (λ xs. fold settle_node (stacks k (marks_of p ++ false ∷ r) e) xs) (append_assoc (forward number p) (node.Repeated o ∷ []) ns)
    ∙ settle-particle p k (false ∷ r) e (node.Repeated o ∷ ns)

-- the second pass where no name is reached
pub settle-unmarked : (p : Particle ℕ) (k e : List Bool) (ns : List Node)
    → fold settle_node (stacks k [] e) (forward number (unmarked p) ++ ns) ≡ fold settle_node (stacks (kept_of (unmarked p) ++ k) [] (is_final (unmarked p) ∷ e)) ns
settle-unmarked (Name n) k e ns = refl
settle-unmarked (Joined Sequence p q) k e ns =
    let l = unmarked p in
    let r = unmarked q in
    let last = node.Sequence (is_nullable l) (is_nullable r) in
    ap (λ xs. fold settle_node (stacks k [] e) xs) (sym (regrouped (forward number l) (forward number r) ns last))
    ∙ settle-unmarked p k e (forward number r ++ last ∷ ns)
    ∙ settle-unmarked q (kept_of l ++ k) (is_final l ∷ e) (last ∷ ns)
    ∙ ap (λ ks. fold settle_node (stacks (is_final l ∷ ks) [] ((is_final r || is_final l && is_nullable r) ∷ e)) ns) (sym (append_assoc (kept_of r) (kept_of l) k))
settle-unmarked (Joined Choice p q) k e ns =
    let l = unmarked p in
    let r = unmarked q in
    ap (λ xs. fold settle_node (stacks k [] e) xs) (sym (regrouped (forward number l) (forward number r) ns node.Choice))
    ∙ settle-unmarked p k e (forward number r ++ node.Choice ∷ ns)
    ∙ settle-unmarked q (kept_of l ++ k) (is_final l ∷ e) (node.Choice ∷ ns)
    ∙ ap (λ ks. fold settle_node (stacks (is_final l ∷ ks) [] ((is_final l || is_final r) ∷ e)) ns) (sym (append_assoc (kept_of r) (kept_of l) k))
settle-unmarked (Repeated o p) k e ns =
    ap (λ xs. fold settle_node (stacks k [] e) xs) (append_assoc (forward number (unmarked p)) (node.Repeated o ∷ []) ns)
    ∙ settle-unmarked p k e (node.Repeated o ∷ ns)

pub bare-unmarked : (p : Particle ℕ) → bare (unmarked p) ≡ p
bare-unmarked (Name n) = refl
bare-unmarked (Joined s p q) = cc (bare-unmarked p, bare-unmarked q)
bare-unmarked (Repeated o p) = cc (bare-unmarked p)

pub is_final-unmarked : (p : Particle ℕ) → is_final (unmarked p) ≡ false
is_final-unmarked (Name n) = refl
is_final-unmarked (Joined Sequence p q) = cc (is_final-unmarked p, is_final-unmarked q)
is_final-unmarked (Joined Choice p q) = cc (is_final-unmarked p, is_final-unmarked q)
is_final-unmarked (Repeated o p) = is_final-unmarked p

-- the nodes of a particle in the list, the first one first, are those of each marking of it
pub forward-bare : (q : Marked) (ns : List Node) → reverse ns ≡ nodes_of (λ n. n) (bare q) → ns ≡ forward number q
forward-bare q ns h = sym (reverse-reverse ns) ∙ ap reverse (h ∙ nodes_of-renamed (λ n. n) number q) ∙ reverse-nodes_of number q

-- no name is reached yet
pub settle-start : (p : Particle ℕ) (ns : List Node) → reverse ns ≡ nodes_of (λ n. n) p
    → fold settle_node (stacks [] [] []) ns ≡ stacks (kept_of (unmarked p)) [] (false ∷ [])
settle-start p ns h =
    let whole = forward-bare (unmarked p) ns (h ∙ ap (nodes_of (λ n. n)) (sym (bare-unmarked p))) in
    ap (λ xs. fold settle_node (stacks [] [] []) xs) (whole ∙ sym (append-nil (forward number (unmarked p))))
    ∙ settle-unmarked p [] [] []
    ∙ ap (λ ks. stacks ks [] (is_final (unmarked p) ∷ [])) (append-nil (kept_of (unmarked p)))
    ∙ ap (λ b. stacks (kept_of (unmarked p)) [] (b ∷ [])) (is_final-unmarked p)

-- one child
pub passes-shift : (c : ℕ) (m : Bool) (q : Marked) (ns : List Node) → reverse ns ≡ nodes_of (λ n. n) (bare q)
    → fold settle_node (fold (reach_node c) (stacks (kept_of q) [] (m ∷ [])) (reverse ns)) ns ≡ stacks (kept_of (shift c m q)) [] (is_final (shift c m q) ∷ [])
passes-shift c m q ns h =
    let to = shift c m q in
    let first : fold (reach_node c) (stacks (kept_of q) [] (m ∷ [])) (reverse ns) ≡ stacks [] (marks_of to) [] =
    ap (λ ks. fold (reach_node c) (stacks ks [] (m ∷ [])) (reverse ns)) (sym (append-nil (kept_of q)))
    ∙ ap (λ xs. fold (reach_node c) (stacks (kept_of q ++ []) [] (m ∷ [])) xs) (h ∙ nodes_of-renamed (λ n. n) number q ∙ sym (append-nil (nodes_of number q)))
    ∙ reach-particle c m q [] [] [] []
    ∙ ap (λ rs. stacks [] rs []) (append-nil (marks_of to)) in
    let whole = forward-bare to ns (h ∙ ap (nodes_of (λ n. n)) (sym (bare-shift c m q))) in
    ap (λ s. fold settle_node s ns) first
    ∙ ap (λ xs. fold settle_node (stacks [] (marks_of to) []) xs) (whole ∙ sym (append-nil (forward number to)))
    ∙ ap (λ rs. fold settle_node (stacks [] rs []) (forward number to ++ [])) (sym (append-nil (marks_of to)))
    ∙ settle-particle to [] [] [] []
    ∙ ap (λ ks. stacks ks [] (is_final to ∷ [])) (append-nil (kept_of to))
