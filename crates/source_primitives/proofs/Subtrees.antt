-- The items of a subtree, and a child with all below it.
use Rattle.std.proofs.Common.{◌≡◌, ℕ, zero, suc, ◌+◌, ◌<◌, ◌≤◌, inl, inr, List, [], ◌∷◌, ◌++◌, length, refl, sym, ap, ◌∙◌, subst, arith, append-nil, append_assoc}
use Rattle.std.proofs.lemmas.Bool.{cases_eq}
use Rattle.source_model.specs.Source.{Body, Root, Element, Text, Comment, Forest, none, node, numbers}
use Rattle.source_model.specs.Changes.{beside, inserted_at, removed_at, alone_at, greatest}
use Rattle.source_model.specs.Proper.{uses, depth_of}
use Rattle.source_model.specs.Consistent.{AreLeaves, AreShort}
use Rattle.source_primitives.specs.declared.primitive.SubItem.{SubItem}
use Rattle.source_primitives.specs.declared.primitive.SubItem.TheVariants as item
use Rattle.source_primitives.specs.Primitives.{before_first, above_first, read_back, first_forest, subtree, items_of, IsSingle}
use Rattle.source_primitives.proofs.Around.{count_same, count_other}

pub beside-none : (f : Forest) → beside f none ≡ f
beside-none none = refl
beside-none (node n body kids rest) = ap (node n body kids) (beside-none rest)

-- the items of neighbours read back as these neighbours
items-read_back : (f : Forest) (more : List SubItem) (r : Forest) (rs : List Forest) → AreLeaves f → read_back more ≡ r ∷ rs → read_back (items_of f ++ more) ≡ beside f r ∷ rs
items-read_back none more r rs leaves e = e
items-read_back (node n Root kids rest) more r rs leaves e = absurd leaves
items-read_back (node n (Element name attributes) kids rest) more r rs leaves e =
    let later : read_back (item.Finish ∷ (items_of rest ++ more)) ≡ none ∷ beside rest r ∷ rs = ap (λ fs. none ∷ fs) (items-read_back rest more r rs leaves.1 e) in
    ap (λ xs. above_first n (Element name attributes) (read_back xs)) (append_assoc (items_of kids) (item.Finish ∷ items_of rest) more)
    ∙ ap (above_first n (Element name attributes)) (items-read_back kids (item.Finish ∷ (items_of rest ++ more)) none (beside rest r ∷ rs) leaves.0 later)
    ∙ ap (λ f. node n (Element name attributes) f (beside rest r) ∷ rs) (beside-none kids)
items-read_back (node n (Text text) kids rest) more r rs leaves e =
    ap (before_first n (Text text)) (items-read_back rest more r rs leaves.1 e) ∙ ap (λ f. node n (Text text) f (beside rest r) ∷ rs) (sym leaves.0)
items-read_back (node n (Comment text) kids rest) more r rs leaves e =
    ap (before_first n (Comment text)) (items-read_back rest more r rs leaves.1 e) ∙ ap (λ f. node n (Comment text) f (beside rest r) ∷ rs) (sym leaves.0)

pub subtree-items_of : (f : Forest) → AreLeaves f → subtree (items_of f) ≡ f
subtree-items_of f leaves =
    ap subtree (sym (append-nil (items_of f))) ∙ ap first_forest (items-read_back f [] none [] leaves refl) ∙ beside-none f

pub leaves_alone : (i : ℕ) (f : Forest) → AreLeaves f → AreLeaves (alone_at i f)
leaves_alone i none leaves = tt
leaves_alone i (node n Root kids rest) leaves = absurd leaves
leaves_alone zero (node n (Element name attributes) kids rest) leaves = (leaves.0, tt)
leaves_alone zero (node n (Text text) kids rest) leaves = (leaves.0, tt)
leaves_alone zero (node n (Comment text) kids rest) leaves = (leaves.0, tt)
leaves_alone (suc i) (node n (Element name attributes) kids rest) leaves = leaves_alone i rest leaves.1
leaves_alone (suc i) (node n (Text text) kids rest) leaves = leaves_alone i rest leaves.1
leaves_alone (suc i) (node n (Comment text) kids rest) leaves = leaves_alone i rest leaves.1

pub single_alone : (i : ℕ) (f : Forest) → i < length (numbers f) → IsSingle (alone_at i f)
single_alone i none within = absurd (omega (arith, within))
single_alone zero (node n body kids rest) within = refl
single_alone (suc i) (node n body kids rest) within = single_alone i rest (omega (arith, within))

pub short_alone : (i : ℕ) (f : Forest) → AreShort f → AreShort (alone_at i f)
short_alone i none short = tt
short_alone zero (node n Root kids rest) short = (short.0, tt)
short_alone zero (node n (Element name attributes) kids rest) short = (short.0, short.1, tt)
short_alone zero (node n (Text text) kids rest) short = (short.0, short.1, tt)
short_alone zero (node n (Comment text) kids rest) short = (short.0, tt)
short_alone (suc i) (node n Root kids rest) short = short_alone i rest short.1
short_alone (suc i) (node n (Element name attributes) kids rest) short = short_alone i rest short.2
short_alone (suc i) (node n (Text text) kids rest) short = short_alone i rest short.2
short_alone (suc i) (node n (Comment text) kids rest) short = short_alone i rest short.1

-- a child is part of the children, and the others are the rest
pub uses_alone : (k i : ℕ) (f : Forest) → uses k (alone_at i f) + uses k (removed_at i f) ≡ uses k f
uses_alone k i none = omega arith
uses_alone k zero (node n body kids rest) = omega arith
uses_alone k (suc i) (node n body kids rest) = let h = uses_alone k i rest in omega (arith, h)

pub depth_removed : (i : ℕ) (f : Forest) → depth_of (removed_at i f) ≤ depth_of f
depth_removed i none = omega arith
depth_removed zero (node n Root kids rest) = omega arith
depth_removed zero (node n (Element name attributes) kids rest) = omega arith
depth_removed zero (node n (Text text) kids rest) = omega arith
depth_removed zero (node n (Comment text) kids rest) = omega arith
depth_removed (suc i) (node n Root kids rest) = let h = depth_removed i rest in omega (arith, h)
depth_removed (suc i) (node n (Element name attributes) kids rest) = let h = depth_removed i rest in omega (arith, h)
depth_removed (suc i) (node n (Text text) kids rest) = let h = depth_removed i rest in omega (arith, h)
depth_removed (suc i) (node n (Comment text) kids rest) = let h = depth_removed i rest in omega (arith, h)

pub leaves_removed : (i : ℕ) (f : Forest) → AreLeaves f → AreLeaves (removed_at i f)
leaves_removed i none leaves = tt
leaves_removed i (node n Root kids rest) leaves = absurd leaves
leaves_removed zero (node n (Element name attributes) kids rest) leaves = leaves.1
leaves_removed zero (node n (Text text) kids rest) leaves = leaves.1
leaves_removed zero (node n (Comment text) kids rest) leaves = leaves.1
leaves_removed (suc i) (node n (Element name attributes) kids rest) leaves = (leaves.0, leaves_removed i rest leaves.1)
leaves_removed (suc i) (node n (Text text) kids rest) leaves = (leaves.0, leaves_removed i rest leaves.1)
leaves_removed (suc i) (node n (Comment text) kids rest) leaves = (leaves.0, leaves_removed i rest leaves.1)

pub short_removed : (i : ℕ) (f : Forest) → AreShort f → AreShort (removed_at i f)
short_removed i none short = tt
short_removed zero (node n Root kids rest) short = short.1
short_removed zero (node n (Element name attributes) kids rest) short = short.2
short_removed zero (node n (Text text) kids rest) short = short.2
short_removed zero (node n (Comment text) kids rest) short = short.1
short_removed (suc i) (node n Root kids rest) short = (short.0, short_removed i rest short.1)
short_removed (suc i) (node n (Element name attributes) kids rest) short = (short.0, short.1, short_removed i rest short.2)
short_removed (suc i) (node n (Text text) kids rest) short = (short.0, short.1, short_removed i rest short.2)
short_removed (suc i) (node n (Comment text) kids rest) short = (short.0, short_removed i rest short.1)

-- a node put in among neighbours
pub uses_beside : (k : ℕ) (f g : Forest) → uses k (beside f g) ≡ uses k f + uses k g
uses_beside k none g = omega arith
uses_beside k (node n body kids rest) g = let h = uses_beside k rest g in omega (arith, h)

pub uses_inserted : (k i : ℕ) (one f : Forest) → uses k (inserted_at i one f) ≡ uses k one + uses k f
uses_inserted k zero one f = uses_beside k one f
uses_inserted k (suc i) one none = omega arith
uses_inserted k (suc i) one (node n body kids rest) = let h = uses_inserted k i one rest in omega (arith, h)

leaves_beside : (f g : Forest) → AreLeaves f → AreLeaves g → AreLeaves (beside f g)
leaves_beside none g one others = others
leaves_beside (node n Root kids rest) g one others = absurd one
leaves_beside (node n (Element name attributes) kids rest) g one others = (one.0, leaves_beside rest g one.1 others)
leaves_beside (node n (Text text) kids rest) g one others = (one.0, leaves_beside rest g one.1 others)
leaves_beside (node n (Comment text) kids rest) g one others = (one.0, leaves_beside rest g one.1 others)

pub leaves_inserted : (i : ℕ) (one f : Forest) → AreLeaves one → AreLeaves f → AreLeaves (inserted_at i one f)
leaves_inserted zero one f leaves others = leaves_beside one f leaves others
leaves_inserted (suc i) one none leaves others = leaves
leaves_inserted (suc i) one (node n Root kids rest) leaves others = absurd others
leaves_inserted (suc i) one (node n (Element name attributes) kids rest) leaves others = (others.0, leaves_inserted i one rest leaves others.1)
leaves_inserted (suc i) one (node n (Text text) kids rest) leaves others = (others.0, leaves_inserted i one rest leaves others.1)
leaves_inserted (suc i) one (node n (Comment text) kids rest) leaves others = (others.0, leaves_inserted i one rest leaves others.1)

short_beside : (f g : Forest) → AreShort f → AreShort g → AreShort (beside f g)
short_beside none g one others = others
short_beside (node n Root kids rest) g one others = (one.0, short_beside rest g one.1 others)
short_beside (node n (Element name attributes) kids rest) g one others = (one.0, one.1, short_beside rest g one.2 others)
short_beside (node n (Text text) kids rest) g one others = (one.0, one.1, short_beside rest g one.2 others)
short_beside (node n (Comment text) kids rest) g one others = (one.0, short_beside rest g one.1 others)

pub short_inserted : (i : ℕ) (one f : Forest) → AreShort one → AreShort f → AreShort (inserted_at i one f)
short_inserted zero one f short others = short_beside one f short others
short_inserted (suc i) one none short others = short
short_inserted (suc i) one (node n Root kids rest) short others = (others.0, short_inserted i one rest short others.1)
short_inserted (suc i) one (node n (Element name attributes) kids rest) short others = (others.0, others.1, short_inserted i one rest short others.2)
short_inserted (suc i) one (node n (Text text) kids rest) short others = (others.0, others.1, short_inserted i one rest short others.2)
short_inserted (suc i) one (node n (Comment text) kids rest) short others = (others.0, short_inserted i one rest short others.1)

-- a single node goes out again as it was put in, and there is one child more
child_out_at : (i m : ℕ) (b : Body) (k f : Forest) → i ≤ length (numbers f) → removed_at i (inserted_at i (node m b k none) f) ≡ f
child_out_at zero m b k f within = refl
child_out_at (suc i) m b k none within = absurd (omega (arith, within))
child_out_at (suc i) m b k (node n body kids rest) within = ap (node n body kids) (child_out_at i m b k rest (omega (arith, within)))

pub child_out : (i : ℕ) (one f : Forest) → IsSingle one → i ≤ length (numbers f) → removed_at i (inserted_at i one f) ≡ f
child_out i none f single within = absurd single
child_out i (node m b k rest) f single within = subst (λ r. removed_at i (inserted_at i (node m b k r) f) ≡ f) (sym single) (child_out_at i m b k f within)

more_children_at : (i m : ℕ) (b : Body) (k f : Forest) → i ≤ length (numbers f) → i < length (numbers (inserted_at i (node m b k none) f))
more_children_at zero m b k f within = omega arith
more_children_at (suc i) m b k none within = absurd (omega (arith, within))
more_children_at (suc i) m b k (node n body kids rest) within = let h = more_children_at i m b k rest (omega (arith, within)) in omega (arith, h)

pub more_children : (i : ℕ) (one f : Forest) → IsSingle one → i ≤ length (numbers f) → i < length (numbers (inserted_at i one f))
more_children i none f single within = absurd single
more_children i (node m b k rest) f single within = subst (λ r. i < length (numbers (inserted_at i (node m b k r) f))) (sym single) (more_children_at i m b k f within)

pub fewer_children : (i : ℕ) (f : Forest) → i < length (numbers f) → i ≤ length (numbers (removed_at i f))
fewer_children i none within = absurd (omega (arith, within))
fewer_children zero (node n body kids rest) within = omega arith
fewer_children (suc i) (node n body kids rest) within = let h = fewer_children i rest (omega (arith, within)) in omega (arith, h)

-- the child that was taken out is put in again
pub child_back : (i : ℕ) (f : Forest) → i < length (numbers f) → inserted_at i (alone_at i f) (removed_at i f) ≡ f
child_back i none within = absurd (omega (arith, within))
child_back zero (node n body kids rest) within = refl
child_back (suc i) (node n body kids rest) within = ap (node n body kids) (child_back i rest (omega (arith, within)))

-- the greatest number bounds those that are used, and no other bound is less
pub used_greatest : (n : ℕ) (f : Forest) → 0 < uses n f → n ≤ greatest f
used_greatest n none used = absurd (omega (arith, used))
used_greatest n (node k body kids rest) used = elim (cases_eq n k) [
  | inl same ↦ omega (arith, same)
  | inr other ↦ let own = count_other n k other in elim (cases_eq (uses n kids) 0) [
    | inl none_inside ↦ let h = used_greatest n rest (omega (arith, used, own, none_inside)) in omega (arith, h)
    | inr some_inside ↦ let h = used_greatest n kids (omega (arith, some_inside)) in omega (arith, h)
  ]
]

pub greatest_least : (m : ℕ) (f : Forest) → ((n : ℕ) → 0 < uses n f → n ≤ m) → greatest f ≤ m
greatest_least m none bound = omega arith
greatest_least m (node k body kids rest) bound =
    let own = count_same k k refl in
    let here = bound k (omega (arith, own)) in
    let inner = greatest_least m kids (λ n used. bound n (omega (arith, used))) in
    let later = greatest_least m rest (λ n used. bound n (omega (arith, used))) in
    omega (arith, here, inner, later)
