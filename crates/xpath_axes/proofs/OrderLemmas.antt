-- Lists of nodes by their paths: where they are sorted, those of each path once are in document order.
use Rattle.std.proofs.Common.{◌≡◌, ℕ, zero, suc, ◌<◌, ◌≤◌, ◌==◌, ◌&&◌, ◌||◌, inl, inr, Bool, true, false, cond, nat_lt, List, [], ◌∷◌, length, drop, get_or, slice_get, Some, if◌then◌else◌, refl, sym, ap, subst, ◌∙◌, arith}
use Rattle.std.specs.List.{AllByRecursion}
use Rattle.std.specs.declared.cmp.Ordering.{Ordering}
use Rattle.std.specs.declared.cmp.Ordering.TheVariants.{Less, Equal, Greater}
use Rattle.std.specs.Ordering.{is_lt, ordering_then, nat_cmp}
use Rattle.std.specs.Cmp.{IsTotalOrder, IsStrictWeakOrder}
use Rattle.std.specs.Cmp.Lexicographic.{slice_cmp, lists_total}
use Rattle.std.proofs.lemmas.Cmp.{then_total, on_total, nat_cmp_total}
use Rattle.std.proofs.lemmas.List.Sorted.{ranks_by}
use Rattle.serna_kinds.specs.declared.cells.NodeRef.{NodeRef}
use Rattle.source_model.specs.Source.{Source}
use Rattle.source_model.specs.Paths.{Path, path_of, is_before, same_step, step_before}
use Rattle.source_model.specs.DocumentOrder.{AreInOrder, is_path_before, is_earlier}
use Rattle.source_model.proofs.Ordered.{IsIn, all_in}
use Rattle.source_model.proofs.PathOrder.{before_onward, same_where_neither}
use Rattle.xpath_axes.specs.declared.order.Placed.{Placed}
use Rattle.xpath_axes.specs.Ordered.{stands_before, is_last, each_once}

-- comparing paths is their order
abbrev pub step_cmp : ℕ × ℕ → ℕ × ℕ → Ordering
step_cmp a b = ordering_then (nat_cmp a.0 b.0) (nat_cmp a.1 b.1)

then_less : (l e m f : Bool) (r : Ordering) →
    is_lt (ordering_then (ordering_then (cond l Less (cond e Equal Greater)) (cond m Less (cond f Equal Greater))) r) ≡ ((l || (e && m)) || ((e && f) && is_lt r))
then_less true e m f r = refl
then_less false false m f r = refl
then_less false true true f r = refl
then_less false true false true r = refl
then_less false true false false r = refl

pub path_less : (p q : Path) → is_lt (slice_cmp step_cmp p q) ≡ is_before p q
path_less [] [] = refl
path_less [] (b ∷ q) = refl
path_less (a ∷ p) [] = refl
path_less (a ∷ p) (b ∷ q) =
    then_less (nat_lt a.0 b.0) (a.0 == b.0) (nat_lt a.1 b.1) (a.1 == b.1) (slice_cmp step_cmp p q)
    ∙ ap (λ (less : Bool). step_before a b || (same_step a b && less)) (path_less p q)

step_total : IsTotalOrder step_cmp
step_total = then_total (on_total (λ (s : ℕ × ℕ). s.0) nat_cmp_total) (on_total (λ (s : ℕ × ℕ). s.1) nat_cmp_total)

pub placed-ranks : IsStrictWeakOrder stands_before
placed-ranks = subst IsStrictWeakOrder (λ i. λ x y. path_less x.path y.path i) (ranks_by (lists_total step_total) (λ (x : Placed). x.path))

-- no item stands before one that it follows
abbrev pub Rises : List Placed → Type 0
Rises [] = Unit {0}
Rises (x ∷ xs) = AllByRecursion (λ (y : Placed). is_before y.path x.path ≡ false) xs × Rises xs

all_from : (P : Placed → Type 0) (xs : List Placed) → ((k : ℕ) (d : Placed) → k < length xs → P (get_or xs k d)) → AllByRecursion P xs
all_from P [] each = tt
all_from P (x ∷ xs) each = (each 0 x (omega arith), all_from P xs (λ k d less. each (suc k) d (omega (arith, less))))

pub rises_far : (xs : List Placed) → ((i j : ℕ) (d : Placed) → i ≤ j → j < length xs → stands_before (get_or xs j d) (get_or xs i d) ≡ false) → Rises xs
rises_far [] far = tt
rises_far (x ∷ xs) far = (
  all_from (λ (y : Placed). is_before y.path x.path ≡ false) xs (λ k d less. far 0 (suc k) d (omega arith) (omega (arith, less))),
  rises_far xs (λ i j d le less. far (suc i) (suc j) d (omega (arith, le)) (omega (arith, less))),
)

-- what holds of each member
pub all_of_in : {A : Type 0} (P : A → Type 0) (xs : List A) → ((x : A) → IsIn x xs → P x) → AllByRecursion P xs
all_of_in P [] each = tt
all_of_in P (x ∷ xs) each = (each x (inl refl), all_of_in P xs (λ y is. each y (inr is)))

-- what is kept is in the list
pub once_in : (r : NodeRef) (xs : List Placed) → IsIn r (each_once xs) → (x : Placed) × IsIn x xs × (x.node ≡ r)
once_in r [] is = absurd is
once_in r (x ∷ xs) is = by (is_last x (slice_get xs 0)) is (once_in r xs)
  where
    by : (b : Bool) → IsIn r (if b then x.node ∷ each_once xs else each_once xs) → (IsIn r (each_once xs) → (y : Placed) × IsIn y xs × (y.node ≡ r)) → (y : Placed) × IsIn y (x ∷ xs) × (y.node ≡ r)
    by true (inl e) go = (x, inl refl, e)
    by true (inr more) go = let found = go more in (found.0, inr found.1, found.2)
    by false more go = let found = go more in (found.0, inr found.1, found.2)

-- of each path one is kept
abbrev Keeps : List Placed → Path → Type 0
Keeps xs p = (y : Placed) × IsIn y.node (each_once xs) × IsIn y xs × (y.path ≡ p)

once_later : (r : NodeRef) (z : Placed) (zs : List Placed) → IsIn r (each_once zs) → IsIn r (each_once (z ∷ zs))
once_later r z zs is = by (is_last z (slice_get zs 0))
  where
    by : (b : Bool) → IsIn r (if b then z.node ∷ each_once zs else each_once zs)
    by true = inr is
    by false = is

keeps_later : (z : Placed) (zs : List Placed) (p : Path) → Keeps zs p → Keeps (z ∷ zs) p
keeps_later z zs p (y, kept, is, same) = (y, once_later y.node z zs kept, inr is, same)

keeps_head : (z h : Placed) (hs : List Placed) → is_before h.path z.path ≡ false → Keeps (h ∷ hs) h.path → Keeps (z ∷ (h ∷ hs)) z.path
keeps_head z h hs back kept = by (is_before z.path h.path) refl kept
  where
    by : (b : Bool) → is_before z.path h.path ≡ b → Keeps (h ∷ hs) h.path → (y : Placed) × IsIn y.node (if b then z.node ∷ each_once (h ∷ hs) else each_once (h ∷ hs)) × IsIn y (z ∷ (h ∷ hs)) × (y.path ≡ z.path)
    by true e kept = (z, inl refl, inl refl, refl)
    by false e (y, kept, is, same) = (y, kept, inr is, same ∙ sym (same_where_neither z.path h.path e back))

pub once_keeps : (x : Placed) (xs : List Placed) → Rises xs → IsIn x xs → Keeps xs x.path
once_keeps x [] rises is = absurd is
once_keeps x (z ∷ []) rises (inl e) = (z, inl refl, inl refl, ap (λ (w : Placed). w.path) e)
once_keeps x (z ∷ []) rises (inr is) = absurd is
once_keeps x (z ∷ (h ∷ hs)) rises (inl e) = subst (λ (w : Placed). Keeps (z ∷ (h ∷ hs)) w.path) e (keeps_head z h hs rises.0.0 (once_keeps h (h ∷ hs) rises.1 (inl refl)))
once_keeps x (z ∷ (h ∷ hs)) rises (inr is) = keeps_later z (h ∷ hs) x.path (once_keeps x (h ∷ hs) rises.1 is)

-- what is kept stands in document order
before_rest : (x : Placed) (xs : List Placed) → is_last x (slice_get xs 0) ≡ true → Rises xs → (y : Placed) → IsIn y xs → is_before x.path y.path ≡ true
before_rest x [] last rises y is = absurd is
before_rest x (h ∷ t) last rises y (inl e) = subst (λ (z : Placed). is_before x.path z.path ≡ true) e last
before_rest x (h ∷ t) last rises y (inr there) = by (is_before h.path y.path) refl
  where
    by : (b : Bool) → is_before h.path y.path ≡ b → is_before x.path y.path ≡ true
    by true e = before_onward x.path h.path y.path last e
    by false e = subst (λ (p : Path). is_before x.path p ≡ true) (same_where_neither h.path y.path e (all_in (λ (z : Placed). is_before z.path h.path ≡ false) y t rises.0 there)) last

earlier_by : (source : Source) (r s : NodeRef) (p q : Path) → path_of source r ≡ Some p → path_of source s ≡ Some q → is_before p q ≡ true → is_earlier source r s ≡ true
earlier_by source r s p q at other less = (λ i. is_path_before (at i) (other i)) ∙ less

pub once_in_order : (source : Source) (xs : List Placed) → Rises xs → AllByRecursion (λ (x : Placed). path_of source x.node ≡ Some x.path) xs → AreInOrder (is_earlier source) (each_once xs)
once_in_order source [] rises told = tt
once_in_order source (x ∷ xs) rises told = by (is_last x (slice_get xs 0)) refl (once_in_order source xs rises.1 told.1)
  where
    by : (b : Bool) → is_last x (slice_get xs 0) ≡ b → AreInOrder (is_earlier source) (each_once xs) → AreInOrder (is_earlier source) (if b then x.node ∷ each_once xs else each_once xs)
    by true e rest = (
      all_of_in (λ (r : NodeRef). is_earlier source x.node r ≡ true) (each_once xs)
          (λ r is. let found = once_in r xs is in
          subst (λ (s : NodeRef). is_earlier source x.node s ≡ true) found.2
          (earlier_by source x.node found.0.node x.path found.0.path told.0 (all_in (λ (y : Placed). path_of source y.node ≡ Some y.path) found.0 xs told.1 found.1) (before_rest x xs e rises.1 found.0 found.1))),
      rest,
    )
    by false e rest = rest

-- one item more
pub once_step : (xs : List Placed) (k : ℕ) (d : Placed) → k < length xs →
    each_once (drop k xs) ≡ (if is_last (get_or xs k d) (slice_get xs (suc k)) then (get_or xs k d).node ∷ each_once (drop (suc k) xs) else each_once (drop (suc k) xs))
once_step [] k d less = absurd (omega (arith, less))
once_step (x ∷ xs) zero d less = refl
once_step (x ∷ xs) (suc k) d less = once_step xs k d (omega (arith, less))
