-- The source that a tree begins: it is linked and proper, and the items of the tree tell it.
use Rattle.std.proofs.Common.{◌≡◌, ℕ, zero, suc, ◌+◌, ◌*◌, ◌<◌, ◌≤◌, inl, inr, List, [], ◌∷◌, ◌++◌, length, max, refl, sym, ap, ◌∙◌, arith, append-nil, append_assoc, length-append}
use Rattle.std.proofs.lemmas.Bool.{cases_lt}
use Rattle.std.specs.List.{AllByRecursion}
use Rattle.serna_kinds.specs.Names.{NameParts, Space}
use Rattle.tree_lines.specs.declared.tree.TreeItem.{TreeItem}
use Rattle.tree_lines.specs.declared.tree.TreeItem.TheVariants as item
use Rattle.tree_lines.specs.Given.{Given, count_of, items_of, IsWhole, AreTexts}
use Rattle.tree_lines.specs.Given as given
use Rattle.tree_lines.specs.Tokens.{IsNamed}
use Rattle.source_model.specs.Source as source
use Rattle.source_model.specs.Cells.{named}
use Rattle.source_model.specs.Proper.{uses, depth_of, AreNodes, AreComments, BeginsNoText, IsTop, IsProper}
use Rattle.source_model.specs.Consistent.{AreLeaves, IsLinked}
use Rattle.source_primitives.specs.declared.primitive.SubItem.{SubItem}
use Rattle.source_primitives.specs.declared.primitive.SubItem.TheVariants as sub
use Rattle.source_primitives.specs.Primitives as primitives
use Rattle.source_primitives.specs.Primitives.{items_of as sub_items_of}
use Rattle.source_primitives.proofs.Around.{count_same, count_other}
use Rattle.source_tree.specs.Begun.{numbered, begun, numbering, nodes_in}
use Rattle.source_tree.proofs.Numbering.{uses-numbered, uses-outside}

AreLeaves-numbered : (k : ℕ) (g : Given) → AreLeaves (numbered k g)
AreLeaves-numbered k given.end = tt
AreLeaves-numbered k (given.text t rest) = (refl, AreLeaves-numbered (k + 1) rest)
AreLeaves-numbered k (given.comment t rest) = (refl, AreLeaves-numbered (k + 1) rest)
AreLeaves-numbered k (given.element name attributes line content rest) = (AreLeaves-numbered (k + 1) content, AreLeaves-numbered (k + 1 + count_of content) rest)

depth_of-numbered : (k : ℕ) (g : Given) → depth_of (numbered k g) ≡ given.depth_of g
depth_of-numbered k given.end = refl
depth_of-numbered k (given.text t rest) = ap (max 0) (depth_of-numbered (k + 1) rest) ∙ omega arith
depth_of-numbered k (given.comment t rest) = ap (max 0) (depth_of-numbered (k + 1) rest) ∙ omega arith
depth_of-numbered k (given.element name attributes line content rest) =
    ap (λ n. max (1 + n) (depth_of (numbered (k + 1 + count_of content) rest))) (depth_of-numbered (k + 1) content)
    ∙ ap (max (1 + given.depth_of content)) (depth_of-numbered (k + 1 + count_of content) rest)

used_once : (n : ℕ) (g : Given) → uses n (source.node 0 source.Root (numbered 1 g) source.none) ≤ 1
used_once zero g =
    let own = count_same 0 0 refl in
    let below = uses-outside 0 1 g (inl (omega arith)) in
    omega (arith, own, below)
used_once (suc n) g =
    let own = count_other (suc n) 0 (λ e. absurd (omega arith)) in
    let below = uses-numbered (suc n) 1 g in
    omega (arith, own, below)

-- the items of a tree are at most twice as many as its nodes
pub length-items_of : (g : Given) → length (items_of g) ≤ 2 * count_of g
length-items_of given.end = omega arith
length-items_of (given.text t rest) = let h = length-items_of rest in omega arith
length-items_of (given.comment t rest) = let h = length-items_of rest in omega arith
length-items_of (given.element name attributes line content rest) =
    let h = length-items_of content in
    let i = length-items_of rest in
    omega (arith, length-append (items_of content) (item.Finish ∷ items_of rest))

-- each element's name is one of the table's
abbrev pub AreNamed : List NameParts → Given → Type 0
AreNamed names g = AllByRecursion (IsNamed names) (items_of g)

named_left : (names : List NameParts) (xs ys : List TreeItem) → AllByRecursion (IsNamed names) (xs ++ ys) → AllByRecursion (IsNamed names) xs
named_left names [] ys all = tt
named_left names (x ∷ xs) ys all = (all.0, named_left names xs ys all.1)

named_right : (names : List NameParts) (xs ys : List TreeItem) → AllByRecursion (IsNamed names) (xs ++ ys) → AllByRecursion (IsNamed names) ys
named_right names [] ys all = all
named_right names (x ∷ xs) ys all = named_right names xs ys all.1

BeginsNoText-numbered : (k : ℕ) (g : Given) → given.BeginsNoText g → BeginsNoText (numbered k g)
BeginsNoText-numbered k given.end is = tt
BeginsNoText-numbered k (given.text t rest) is = is
BeginsNoText-numbered k (given.comment t rest) is = tt
BeginsNoText-numbered k (given.element name attributes line content rest) is = tt

AreNodes-numbered : (names : List NameParts) (k : ℕ) (g : Given) → AreTexts g → AreNamed names g → AreNodes names (numbered k g)
AreNodes-numbered names k given.end texts all = tt
AreNodes-numbered names k (given.text t rest) texts all =
    (texts.0, texts.1, refl, BeginsNoText-numbered (k + 1) rest texts.2, AreNodes-numbered names (k + 1) rest texts.3 all.1)
AreNodes-numbered names k (given.comment t rest) texts all = (refl, AreNodes-numbered names (k + 1) rest texts all.1)
AreNodes-numbered names k (given.element name attributes line content rest) texts all = (
  all.0.0,
  (all.0.1, texts.0),
  AreNodes-numbered names (k + 1) content texts.1 (named_left names (items_of content) (item.Finish ∷ items_of rest) all.1),
  AreNodes-numbered names (k + 1 + count_of content) rest texts.2 (named_right names (items_of content) (item.Finish ∷ items_of rest) all.1).1,
)

AreComments-numbered : (k : ℕ) (g : Given) → given.AreComments g → AreComments (numbered k g)
AreComments-numbered k given.end are = tt
AreComments-numbered k (given.text t rest) are = are
AreComments-numbered k (given.comment t rest) are = AreComments-numbered (k + 1) rest are
AreComments-numbered k (given.element name attributes line content rest) are = are

IsTop-numbered : (k : ℕ) (g : Given) → given.IsTop g → IsTop (numbered k g)
IsTop-numbered k given.end is = is
IsTop-numbered k (given.text t rest) is = is
IsTop-numbered k (given.comment t rest) is = IsTop-numbered (k + 1) rest is
IsTop-numbered k (given.element name attributes line content rest) is = AreComments-numbered (k + 1 + count_of content) rest is

used_within : (n : ℕ) (g : Given) → 0 < uses n (source.node 0 source.Root (numbered 1 g) source.none) → n ≤ count_of g
used_within n g used = elim (cases_lt (count_of g) n) [
  | inl past ↦
      let own = count_other n 0 (λ e. absurd (omega arith)) in
      let below = uses-outside n 1 g (inr (omega arith)) in
      absurd (omega (arith, own, below, used))
  | inr within ↦ within
]

pub IsProper-begun : (names : List NameParts) (spaces : List Space) (g : Given) → IsWhole g → AreNamed names g → IsProper names (begun spaces g)
unfolding begun
IsProper-begun names spaces g w all = record {
  top = numbered 1 g;
  rooted = refl;
  outermost = IsTop-numbered 1 g w.top;
  nodes = AreNodes-numbered names 1 g w.texts all;
  distinct = λ n. used_once n g;
  numbered = λ n used. used_within n g used;
  few = w.few;
  shallow = let d = depth_of-numbered 1 g in omega (arith, d, w.shallow);
}

pub IsLinked-begun : (spaces : List Space) (g : Given) → IsWhole g → IsLinked (begun spaces g)
unfolding begun
IsLinked-begun spaces g w = record {
  top = numbered 1 g;
  rooted = refl;
  leaves = AreLeaves-numbered 1 g;
  distinct = λ n. used_once n g;
  numbered = λ n used. used_within n g used;
  few = w.few;
  shallow = let d = depth_of-numbered 1 g in omega (arith, d, w.shallow);
}

-- what stands at its top, and how its items go on
pub top-begun : (spaces : List Space) (g : Given) (w : IsWhole g) → (IsLinked-begun spaces g w).top ≡ numbered 1 g
unfolding IsLinked-begun
top-begun spaces g w = refl

items_numbered : (g : Given) (k : ℕ) (more : List TreeItem) → numbering k (items_of g ++ more) ≡ sub_items_of (numbered k g) ++ numbering (k + count_of g) more
items_numbered given.end k more = ap (λ n. numbering n more) (omega arith)
items_numbered (given.text t rest) k more = ap (λ xs. sub.Text (named k) t ∷ xs) (items_numbered rest (k + 1) more ∙ ap (λ n. sub_items_of (numbered (k + 1) rest) ++ numbering n more) (omega arith))
items_numbered (given.comment t rest) k more =
    ap (λ xs. sub.Comment (named k) t ∷ xs) (items_numbered rest (k + 1) more ∙ ap (λ n. sub_items_of (numbered (k + 1) rest) ++ numbering n more) (omega arith))
items_numbered (given.element name attributes line content rest) k more =
    let later : ℕ = k + 1 + count_of content in
    let inner : List SubItem = sub_items_of (numbered (k + 1) content) in
    let behind : List SubItem = sub_items_of (numbered later rest) in
    ap (λ xs. sub.Begin (named k) name attributes ∷ xs)
    (ap (numbering (k + 1)) (append_assoc (items_of content) (item.Finish ∷ items_of rest) more)
    ∙ items_numbered content (k + 1) (item.Finish ∷ (items_of rest ++ more))
    ∙ ap (λ xs. inner ++ (sub.Finish ∷ xs)) (items_numbered rest later more ∙ ap (λ n. behind ++ numbering n more) (omega arith))
    ∙ sym (append_assoc inner (sub.Finish ∷ behind) (numbering (k + count_of (given.element name attributes line content rest)) more)))

pub whole_numbered : (g : Given) → numbering 1 (items_of g) ≡ sub_items_of (numbered 1 g)
whole_numbered g = ap (numbering 1) (sym (append-nil (items_of g))) ∙ items_numbered g 1 [] ∙ append-nil (sub_items_of (numbered 1 g))

nodes-append : (a b : List TreeItem) → nodes_in (a ++ b) ≡ nodes_in a + nodes_in b
nodes-append [] b = omega arith
nodes-append (item.Begin name attributes line ∷ a) b = let h = nodes-append a b in omega (arith, h)
nodes-append (item.Text t ∷ a) b = let h = nodes-append a b in omega (arith, h)
nodes-append (item.Comment t ∷ a) b = let h = nodes-append a b in omega (arith, h)
nodes-append (item.Finish ∷ a) b = nodes-append a b

pub nodes_counted : (g : Given) → nodes_in (items_of g) ≡ count_of g
nodes_counted given.end = refl
nodes_counted (given.text t rest) = let h = nodes_counted rest in omega (arith, h)
nodes_counted (given.comment t rest) = let h = nodes_counted rest in omega (arith, h)
nodes_counted (given.element name attributes line content rest) =
    let h = nodes_counted content in
    let i = nodes_counted rest in
    let both = nodes-append (items_of content) (item.Finish ∷ items_of rest) in
    omega (arith, h, i, both)

pub made-begun : (spaces : List Space) (g : Given) → (begun spaces g).made ≡ count_of g
unfolding begun
made-begun spaces g = refl

pub spaces-begun : (spaces : List Space) (g : Given) → (begun spaces g).spaces ≡ spaces
unfolding begun
spaces-begun spaces g = refl

-- the neighbours end here: with the items, or with the end of the element around them
abbrev EndsHere : List TreeItem → Type 0
EndsHere [] = Unit {0}
EndsHere (item.Begin name attributes line ∷ items) = ⊥
EndsHere (item.Text t ∷ items) = ⊥
EndsHere (item.Comment t ∷ items) = ⊥
EndsHere (item.Finish ∷ items) = Unit {0}

-- the items of a tree tell the tree
same_items : (g h : Given) (x y : List TreeItem) → EndsHere x → EndsHere y → items_of g ++ x ≡ items_of h ++ y → (g ≡ h) × (x ≡ y)
same_items given.end given.end x y ends ends₁ e = (refl, e)
same_items given.end (given.text t rest) [] y ends ends₁ e = cc
same_items given.end (given.text t rest) (item.Begin n a l ∷ x) y ends ends₁ e = absurd ends
same_items given.end (given.text t rest) (item.Text u ∷ x) y ends ends₁ e = absurd ends
same_items given.end (given.text t rest) (item.Comment u ∷ x) y ends ends₁ e = absurd ends
same_items given.end (given.text t rest) (item.Finish ∷ x) y ends ends₁ e = cc
same_items given.end (given.comment t rest) [] y ends ends₁ e = cc
same_items given.end (given.comment t rest) (item.Begin n a l ∷ x) y ends ends₁ e = absurd ends
same_items given.end (given.comment t rest) (item.Text u ∷ x) y ends ends₁ e = absurd ends
same_items given.end (given.comment t rest) (item.Comment u ∷ x) y ends ends₁ e = absurd ends
same_items given.end (given.comment t rest) (item.Finish ∷ x) y ends ends₁ e = cc
same_items given.end (given.element m b k content rest) [] y ends ends₁ e = cc
same_items given.end (given.element m b k content rest) (item.Begin n a l ∷ x) y ends ends₁ e = absurd ends
same_items given.end (given.element m b k content rest) (item.Text u ∷ x) y ends ends₁ e = absurd ends
same_items given.end (given.element m b k content rest) (item.Comment u ∷ x) y ends ends₁ e = absurd ends
same_items given.end (given.element m b k content rest) (item.Finish ∷ x) y ends ends₁ e = cc
same_items (given.text t rest) given.end x [] ends ends₁ e = cc
same_items (given.text t rest) given.end x (item.Begin n a l ∷ y) ends ends₁ e = absurd ends₁
same_items (given.text t rest) given.end x (item.Text u ∷ y) ends ends₁ e = absurd ends₁
same_items (given.text t rest) given.end x (item.Comment u ∷ y) ends ends₁ e = absurd ends₁
same_items (given.text t rest) given.end x (item.Finish ∷ y) ends ends₁ e = cc
same_items (given.text t rest) (given.text u others) x y ends ends₁ e =
    let tail : items_of rest ++ x ≡ items_of others ++ y = cc in
    let same : t ≡ u = cc in
    let h = same_items rest others x y ends ends₁ tail in
    (ap (λ v. given.text v rest) same ∙ ap (given.text u) h.0, h.1)
same_items (given.text t rest) (given.comment u others) x y ends ends₁ e = cc
same_items (given.text t rest) (given.element m b k content others) x y ends ends₁ e = cc
same_items (given.comment t rest) given.end x [] ends ends₁ e = cc
same_items (given.comment t rest) given.end x (item.Begin n a l ∷ y) ends ends₁ e = absurd ends₁
same_items (given.comment t rest) given.end x (item.Text u ∷ y) ends ends₁ e = absurd ends₁
same_items (given.comment t rest) given.end x (item.Comment u ∷ y) ends ends₁ e = absurd ends₁
same_items (given.comment t rest) given.end x (item.Finish ∷ y) ends ends₁ e = cc
same_items (given.comment t rest) (given.text u others) x y ends ends₁ e = cc
same_items (given.comment t rest) (given.comment u others) x y ends ends₁ e =
    let tail : items_of rest ++ x ≡ items_of others ++ y = cc in
    let same : t ≡ u = cc in
    let h = same_items rest others x y ends ends₁ tail in
    (ap (λ v. given.comment v rest) same ∙ ap (given.comment u) h.0, h.1)
same_items (given.comment t rest) (given.element m b k content others) x y ends ends₁ e = cc
same_items (given.element n a l content rest) given.end x [] ends ends₁ e = cc
same_items (given.element n a l content rest) given.end x (item.Begin m b k ∷ y) ends ends₁ e = absurd ends₁
same_items (given.element n a l content rest) given.end x (item.Text u ∷ y) ends ends₁ e = absurd ends₁
same_items (given.element n a l content rest) given.end x (item.Comment u ∷ y) ends ends₁ e = absurd ends₁
same_items (given.element n a l content rest) given.end x (item.Finish ∷ y) ends ends₁ e = cc
same_items (given.element n a l content rest) (given.text u others) x y ends ends₁ e = cc
same_items (given.element n a l content rest) (given.comment u others) x y ends ends₁ e = cc
same_items (given.element n a l content rest) (given.element m b k inner others) x y ends ends₁ e =
    let same_name : n ≡ m = cc in
    let same_attributes : a ≡ b = cc in
    let same_line : l ≡ k = cc in
    let tail : (items_of content ++ (item.Finish ∷ items_of rest)) ++ x ≡ (items_of inner ++ (item.Finish ∷ items_of others)) ++ y = cc in
    let h = same_items content inner (item.Finish ∷ (items_of rest ++ x)) (item.Finish ∷ (items_of others ++ y)) tt tt
    (sym (append_assoc (items_of content) (item.Finish ∷ items_of rest) x) ∙ tail ∙ append_assoc (items_of inner) (item.Finish ∷ items_of others) y) in
    let later : items_of rest ++ x ≡ items_of others ++ y = let f = h.1 in cc in
    let i = same_items rest others x y ends ends₁ later in (
      ap (λ v. given.element v a l content rest) same_name ∙ ap (λ v. given.element m v l content rest) same_attributes ∙ ap (λ v. given.element m b v content rest) same_line
          ∙ ap (λ v. given.element m b k v rest) h.0 ∙ ap (given.element m b k inner) i.0,
      i.1,
    )

pub items_tell : (g h : Given) → items_of g ≡ items_of h → g ≡ h
items_tell g h e = (same_items g h [] [] tt tt (ap (λ xs. xs ++ []) e)).0
