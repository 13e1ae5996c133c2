-- An instance with its holes filled, part by part.
use Rattle.std.proofs.Common.{◌≡◌, ℕ, zero, suc, ◌+◌, ◌<◌, ◌++◌, List, [], ◌∷◌, Some, None, length, take, map, get_or, slice_get, refl, sym, ap, ◌∙◌, arith, append_assoc}
use Rattle.std.proofs.lemmas.List.{take_more, append-nil, length-append}
use Rattle.std.proofs.Math.Seq.{get_or-append_seam}
use Rattle.std.specs.Iterator.{Yields}
use Rattle.std.specs.Vec.Iter.{into_iter_items, into_iter_len, into_iter_steps}
use Rattle.std.specs.declared.vec.IntoIter.{IntoIter}
use Rattle.serna_kinds.specs.Names.{NameParts}
use Rattle.source_model.specs.Source.{Source}
use Rattle.result_origin.specs.Parts.{Mark, ResultPart, Says, Hole, holes, numbered, filled, said}
use Rattle.result_origin.specs.Items.{part_of}
use Rattle.result_origin.specs.declared.items.Item.{Item}
use Rattle.result_origin.specs.declared.items.Item.TheVariants as item
use Rattle.result_origin.proofs.FilledLemmas.{filled-append, said-append}
use Rattle.style_sheet.specs.Sheet.{StyleValue}
use Rattle.instance_store.specs.declared.request.Asked.{Asked}
use Rattle.instance_store.specs.declared.request.Request.{Request}
use Rattle.instance_store.specs.declared.request.Place.{Place}
use Rattle.template_run.specs.Batch.{frag, whole, batch}
use Rattle.template_run.specs.Requests.{root_request}
use Rattle.instance_store.specs.Requests.{place_at}
use Rattle.template_run.specs.Filled.{filling}

pub whole_filled : (names : List NameParts) (style : StyleValue) (left : ℕ) (request : Request) (place : Place) (source : Source) →
    filled (filling names style left source) (frag names style left request place source) ≡ whole names style left request place source
unfolding whole
whole_filled names style zero request place source = refl
whole_filled names style (suc left) request place source = refl

pub batch_whole : (names : List NameParts) (style : StyleValue) (source : Source) → whole names style 200 root_request (place_at 1 1) source ≡ batch names style source
unfolding batch
batch_whole names style source = refl

-- what stands at a place of numbered parts: a mark, or the number of a hole at which what it asks for stands
data At (k : ℕ) (parts : List (ResultPart Asked)) (i : ℕ) (part : ResultPart ℕ) : Type 0 where
  mark : (m : Mark) → part ≡ Says m → (d : ResultPart Asked) → get_or parts i d ≡ Says m → At k parts i part
  hole : (h : ℕ) (a : Asked) → part ≡ Hole (k + h) → slice_get (holes parts) h ≡ Some a → (d : ResultPart Asked) → get_or parts i d ≡ Hole a → At k parts i part

behind_mark : (k : ℕ) (parts : List (ResultPart Asked)) (i : ℕ) (part : ResultPart ℕ) (m : Mark) → At k parts i part → At k (Says m ∷ parts) (suc i) part
behind_mark k parts i part m (mark n e d g) = mark n e d g
behind_mark k parts i part m (hole h a e s d g) = hole h a e s d g

behind_hole : (k : ℕ) (parts : List (ResultPart Asked)) (i : ℕ) (part : ResultPart ℕ) (b : Asked) → At (k + 1) parts i part → At k (Hole b ∷ parts) (suc i) part
behind_hole k parts i part b (mark n e d g) = mark n e d g
behind_hole k parts i part b (hole h a e s d g) = hole (suc h) a (e ∙ ap (λ n. Hole n) (omega arith)) s d g

at_place : (k : ℕ) (parts : List (ResultPart Asked)) (i : ℕ) (part : ResultPart ℕ) → i < length parts → part ≡ get_or (numbered k parts) i part → At k parts i part
at_place k [] i part within is = absurd (omega (arith, within))
at_place k (Says m ∷ parts) zero part within is = mark m is (Says m) refl
at_place k (Hole a ∷ parts) zero part within is = hole 0 a (is ∙ ap (λ n. Hole n) (omega arith)) refl (Hole a) refl
at_place k (Says m ∷ parts) (suc i) part within is = behind_mark k parts i part m (at_place k parts i part (omega (arith, within)) is)
at_place k (Hole a ∷ parts) (suc i) part within is = behind_hole k parts i part a (at_place (k + 1) parts i part (omega (arith, within)) is)

-- the items that were taken, and those that are left, are all
taken_front : {A : Type 0} (s t : IntoIter Item A) (taken : List Item) → Yields into_iter_steps s taken t → into_iter_items s ≡ taken ++ into_iter_items t
taken_front s t [] gave = ap into_iter_items gave
taken_front s t (x ∷ taken) gave = gave.1.0 ∙ ap (λ xs. x ∷ xs) (taken_front gave.0 t taken gave.2)

-- and as many
taken_many : {A : Type 0} (s t : IntoIter Item A) (taken : List Item) → Yields into_iter_steps s taken t → into_iter_len s ≡ length taken + into_iter_len t
taken_many s t [] gave = omega (arith, ap into_iter_len gave)
taken_many s t (x ∷ taken) gave = omega (arith, gave.1.1, taken_many gave.0 t taken gave.2)

-- an item that is taken stands at its place
pub taken_at : {A : Type 0} (s t u : IntoIter Item A) (items taken : List Item) (one : Item) → into_iter_items s ≡ items → Yields into_iter_steps s taken t → into_iter_steps t (Some one) u →
    (length taken < length items) × (one ≡ get_or items (length taken) one)
taken_at s t u items taken one is gave next =
    let all : items ≡ taken ++ (one ∷ into_iter_items u) = sym is ∙ taken_front s t taken gave ∙ ap (λ xs. taken ++ xs) next.0 in (
      omega (arith, ap length all, length-append taken (one ∷ into_iter_items u)),
      sym (ap (λ (xs : List Item). get_or xs (length taken) one) all ∙ get_or-append_seam taken one (into_iter_items u) one),
    )

-- where no item is left, all were taken
pub taken_all : {A : Type 0} (s t u : IntoIter Item A) (items taken : List Item) → into_iter_len s ≡ length items → Yields into_iter_steps s taken t → into_iter_steps t None u →
    length taken ≡ length items
taken_all s t u items taken many gave next = omega (arith, many, taken_many s t taken gave, next.0)

-- an item of a fragment is the part at its place
pub item_part : (items : List Item) (i : ℕ) (one : Item) (ps : List (ResultPart ℕ)) → i < length items → one ≡ get_or items i one → map part_of items ≡ ps →
    part_of one ≡ get_or ps i (part_of one)
item_part items i one ps within is same = at items i one within is ∙ ap (λ (qs : List (ResultPart ℕ)). get_or qs i (part_of one)) same
  where
    at : (items : List Item) (i : ℕ) (one : Item) → i < length items → one ≡ get_or items i one → part_of one ≡ get_or (map part_of items) i (part_of one)
    at [] i one within is = absurd (omega (arith, within))
    at (x ∷ items) zero one within is = ap part_of is
    at (x ∷ items) (suc i) one within is = at items i one (omega (arith, within)) is

pub as_many : (items : List Item) (parts : List (ResultPart Asked)) → map part_of items ≡ numbered 0 parts → length items ≡ length parts
as_many items parts same = sym (length_map items) ∙ ap length same ∙ length_numbered 0 parts
  where
    length_map : (items : List Item) → length (map part_of items) ≡ length items
    length_map [] = refl
    length_map (x ∷ items) = ap suc (length_map items)

    length_numbered : (k : ℕ) (parts : List (ResultPart Asked)) → length (numbered k parts) ≡ length parts
    length_numbered k [] = refl
    length_numbered k (Says m ∷ parts) = ap suc (length_numbered k parts)
    length_numbered k (Hole a ∷ parts) = ap suc (length_numbered (k + 1) parts)

abbrev number_of : ResultPart ℕ → ℕ
number_of (Says m) = 0
number_of (Hole h) = h

module _ (fill : Asked → List Mark) (parts : List (ResultPart Asked)) (i : ℕ) (old out new : List (ResultPart ℕ)) (within : i < length parts)
    (so_far : out ≡ old ++ said (filled fill (take i parts))) where
  more : (d : ResultPart Asked) (one : ResultPart Asked) → get_or parts i d ≡ one → new ≡ out ++ said (filled fill (one ∷ [])) → new ≡ old ++ said (filled fill (take (i + 1) parts))
  more d one is added =
      added ∙ ap (λ ps. ps ++ said (filled fill (one ∷ []))) so_far ∙ append_assoc old (said (filled fill (take i parts))) (said (filled fill (one ∷ [])))
      ∙ ap (λ ps. old ++ ps)
      (sym (said-append (filled fill (take i parts)) (filled fill (one ∷ []))) ∙ ap said (sym (filled-append fill (take i parts) (one ∷ [])))
      ∙ ap (λ (p : ResultPart Asked). said (filled fill (take i parts ++ p ∷ []))) (sym is)
      ∙ ap (λ (ps : List (ResultPart Asked)). said (filled fill ps)) (sym (take_more parts i d within)))

  by_mark : (part : ResultPart ℕ) → ((h : ℕ) → part ≡ Hole h → ⊥) → new ≡ out ++ part ∷ [] → At 0 parts i part → new ≡ old ++ said (filled fill (take (i + 1) parts))
  by_mark part no_hole added (mark m e d g) = more d (Says m) g (added ∙ ap (λ p. out ++ p ∷ []) e)
  by_mark part no_hole added (hole h a e s d g) = absurd (no_hole (0 + h) e)

  -- past a mark
  pub past_mark : (part : ResultPart ℕ) → part ≡ get_or (numbered 0 parts) i part → ((h : ℕ) → part ≡ Hole h → ⊥) → new ≡ out ++ part ∷ [] →
      new ≡ old ++ said (filled fill (take (i + 1) parts))
  past_mark part is no_hole added = by_mark part no_hole added (at_place 0 parts i part within is)

  by_hole : (j : ℕ) → ((one : Asked) → slice_get (holes parts) j ≡ Some one → new ≡ out ++ said (fill one)) → At 0 parts i (Hole j) → new ≡ old ++ said (filled fill (take (i + 1) parts))
  by_hole j filled_in (mark m e d g) = cc
  by_hole j filled_in (hole h a e s d g) =
      more d (Hole a) g
      (filled_in a (ap (λ n. slice_get (holes parts) n) (ap number_of e) ∙ ap (λ n. slice_get (holes parts) n) (omega arith) ∙ s)
      ∙ ap (λ ms. out ++ said ms) (sym (append-nil (fill a))))

  -- past a hole
  pub past_hole : (j : ℕ) → Hole j ≡ get_or (numbered 0 parts) i (Hole j) → ((one : Asked) → slice_get (holes parts) j ≡ Some one → new ≡ out ++ said (fill one)) →
      new ≡ old ++ said (filled fill (take (i + 1) parts))
  past_hole j is filled_in = by_hole j filled_in (at_place 0 parts i (Hole j) within is)

-- an item that is no hole says something
pub no_hole : (one : Item) → ((id : ℕ) → one ≡ item.Hole id → ⊥) → (h : ℕ) → part_of one ≡ Hole h → ⊥
no_hole (item.Run text origin) not h e = cc
no_hole (item.Begin name rule) not h e = cc
no_hole (item.Attr name) not h e = cc
no_hole item.AttrEnd not h e = cc
no_hole item.Finish not h e = cc
no_hole (item.Hole id) not h e = not id refl
