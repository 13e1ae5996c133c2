-- What may be read, part by part.
use Rattle.std.proofs.Common.{◌≡◌, ℕ, zero, suc, ◌+◌, ◌<◌, ◌++◌, Bool, IsTrue, List, [], ◌∷◌, take, length, reverse, get_or, Option, Some, None, refl, sym, ap, subst, ◌∙◌, arith}
use Rattle.std.specs.List.{flat_map}
use Rattle.std.proofs.lemmas.List.{take_more, flat_map_more, reverse-append}
use Rattle.serna_kinds.specs.declared.cells.NodeName.{NodeName}
use Rattle.serna_kinds.specs.declared.cells.Cell.{Cell}
use Rattle.serna_kinds.specs.declared.cells.Facet.{Facet}
use Rattle.serna_kinds.specs.declared.cells.Facet.TheVariants as facet
use Rattle.serna_kinds.specs.declared.expressions.Axis.{Axis}
use Rattle.source_model.specs.Source.{Source}
use Rattle.source_model.specs.Cells.{Spot, spot_of}
use Rattle.source_model.specs.Logged.{cell_at}
use Rattle.xpath_axes.specs.Nodes.{children_of, kids_at, parent_at}
use Rattle.xpath_axes.specs.Walks.{below_one, below, step, outward}
use Rattle.xpath_axes.specs.Allowed.{MayRead, MayStep, MayWalk, AtParent}

-- children by the two clauses of the call that reads them
pub kids_both : (source : Source) (n : NodeName) (kids : List NodeName) → ((spot : Spot) → spot_of source n.0 ≡ Some spot → kids ≡ children_of spot) → (spot_of source n.0 ≡ None → kids ≡ []) → kids ≡ kids_at source n
kids_both source n kids here gone = by (spot_of source n.0) here gone
  where
    by : (o : Option Spot) → ((spot : Spot) → o ≡ Some spot → kids ≡ children_of spot) → (o ≡ None → kids ≡ []) → kids ≡ elim o [ None ↦ [] | Some spot ↦ children_of spot ]
    by None here gone = gone refl
    by (Some spot) here gone = here spot refl

module _ (allowed : Cell → Bool) (f : Facet) where
  pub may_front : (xs ys : List NodeName) → MayRead allowed f (xs ++ ys) → MayRead allowed f xs
  may_front [] ys may = tt
  may_front (x ∷ xs) ys may = (may.0, may_front xs ys may.1)

  pub may_back : (xs ys : List NodeName) → MayRead allowed f (xs ++ ys) → MayRead allowed f ys
  may_back [] ys may = may
  may_back (x ∷ xs) ys may = may_back xs ys may.1

  pub may_both : (xs ys : List NodeName) → MayRead allowed f xs → MayRead allowed f ys → MayRead allowed f (xs ++ ys)
  may_both [] ys one other = other
  may_both (x ∷ xs) ys one other = (one.0, may_both xs ys one.1 other)

  pub may_one : (g : NodeName → List NodeName) (xs : List NodeName) (i : ℕ) (d : NodeName) → i < length xs → MayRead allowed f (flat_map g xs) → MayRead allowed f (g (get_or xs i d))
  may_one g [] i d less may = absurd (omega (arith, less))
  may_one g (x ∷ xs) zero d less may = may_front (g x) (flat_map g xs) may
  may_one g (x ∷ xs) (suc i) d less may = may_one g xs i d (omega (arith, less)) (may_back (g x) (flat_map g xs) may)

  pub may_item : (xs : List NodeName) (i : ℕ) (d : NodeName) → i < length xs → MayRead allowed f xs → IsTrue (allowed (cell_at f (get_or xs i d)))
  may_item [] i d less may = absurd (omega (arith, less))
  may_item (x ∷ xs) zero d less may = may.0
  may_item (x ∷ xs) (suc i) d less may = may_item xs i d (omega (arith, less)) may.1

  pub may_reversed : (xs : List NodeName) → MayRead allowed f (reverse xs) → MayRead allowed f xs
  may_reversed [] may = tt
  may_reversed (x ∷ xs) may =
      let parts : MayRead allowed f (reverse xs ++ x ∷ []) = subst (MayRead allowed f) (reverse-append (x ∷ []) xs) may in
      ((may_back (reverse xs) (x ∷ []) parts).0, may_reversed xs (may_front (reverse xs) (x ∷ []) parts))

-- a walk downward
pub below_more : (source : Source) (left : ℕ) (nodes : List NodeName) (i : ℕ) (d : NodeName) (old : List NodeName) → i < length nodes →
    (old ++ below source left (take i nodes)) ++ below_one source left (get_or nodes i d) ≡ old ++ below source left (take (i + 1) nodes)
below_more source left nodes i d old less =
    flat_map_more (below_one source left) old (take i nodes) (get_or nodes i d) ∙ sym (ap (λ (l : List NodeName). old ++ below source left l) (take_more nodes i d less))

pub below_one_is : (source : Source) (left less : ℕ) (n : NodeName) → left ≡ suc less → below_one source left n ≡ n ∷ below source less (kids_at source n)
below_one_is source left less n e = ap (λ (k : ℕ). below_one source k n) e

-- a walk outward
pub outward_is : (along : Axis) (source : Source) (left less : ℕ) (n p : NodeName) → left ≡ suc less → Some p ≡ parent_at source n →
    outward along source left n ≡ step along source n p ++ outward along source less p
outward_is along source left less n p e is =
    ap (λ (k : ℕ). outward along source k n) e ∙ sym (ap (λ (o : Option NodeName). elim o [ None ↦ [] | Some p ↦ step along source n p ++ outward along source less p ]) is)

pub outward_none : (along : Axis) (source : Source) (left : ℕ) (n : NodeName) → None ≡ parent_at source n → outward along source left n ≡ []
outward_none along source zero n is = refl
outward_none along source (suc left) n is = sym (ap (λ (o : Option NodeName). elim o [ None ↦ [] | Some p ↦ step along source n p ++ outward along source left p ]) is)

pub may_up : (allowed : Cell → Bool) (along : Axis) (source : Source) (left less : ℕ) (n : NodeName) → left ≡ suc less → MayWalk allowed along source left n → IsTrue (allowed (cell_at facet.Up n))
may_up allowed along source left less n e may = (subst (λ (k : ℕ). MayWalk allowed along source k n) e may).0

pub may_step : (allowed : Cell → Bool) (along : Axis) (source : Source) (left less : ℕ) (n p : NodeName) → left ≡ suc less → Some p ≡ parent_at source n → MayWalk allowed along source left n →
    MayStep allowed along source n p × MayWalk allowed along source less p
may_step allowed along source left less n p e is may =
    subst (AtParent (λ p. MayStep allowed along source n p × MayWalk allowed along source less p)) (sym is) (subst (λ (k : ℕ). MayWalk allowed along source k n) e may).1
