-- What a primitive leaves of the cells is what it leaves of each source that has them.
use Rattle.std.proofs.Common.{◌≡◌, ℕ, ◌+◌, ◌^◌, ◌<◌, ◌≤◌, List, [], ◌∷◌, length, Option, Some, encode_utf8_all, if◌then◌else◌, sym, ap, ◌∙◌, subst, arith}
use Rattle.std.proofs.Common.{Result, Ok, Err, IfOk}
use Rattle.std.specs.Option.{option_map_or, option_and_then}
use Rattle.std.specs.Prelude.{insert, max, unwrap_or}
use Rattle.serna_kinds.specs.declared.cells.NameId.{NameId}
use Rattle.serna_kinds.specs.declared.cells.NodeName.{NodeName}
use Rattle.serna_kinds.specs.declared.cells.AttrPair.{AttrPair}
use Rattle.serna_kinds.specs.declared.cells.Cell.{Cell}
use Rattle.serna_kinds.specs.declared.cells.Facet.TheVariants as facet
use Rattle.serna_kinds.specs.Content.{Content}
use Rattle.serna_kinds.specs.Content as content
use Rattle.serna_kinds.specs.Tape.{is_cell}
use Rattle.serna_kinds.specs.Texts.{IsPlaceIn, inserted, removed}
use Rattle.source_model.specs.Source.{Forest, Source}
use Rattle.source_model.specs.Cells.{facet_of, cell_of}
use Rattle.source_model.specs.Changes.{text_at, between}
use Rattle.source_model.specs.Attributes.{pair_of, value_among, place_among, with_value, without_name}
use Rattle.source_model.specs.Logged.{cell_at}
use Rattle.source_model.specs.Told.{told_text, told_pairs, AreSameCells}
use Rattle.frozen_tree.specs.declared.kept.KeptValue.TheVariants as kept
use Rattle.frozen_tree.specs.declared.kept.CellChange.{CellChange}
use Rattle.frozen_tree.specs.Maps.{changed_by}
use Rattle.source_primitives.specs.declared.primitive.Primitive.TheVariants.{InsertText, RemoveText, SetAttr, RemoveAttr, PutAttr}
use Rattle.source_primitives.specs.Primitives.{old_value}
use Rattle.source_steps.specs.CellChanges.{with_content, put}
use Rattle.source_steps.specs.declared.step.Step.{Step}
use Rattle.source_steps.specs.Steps.{text_in, pairs_in, MayStep, Steps}
use Rattle.source_primitives.proofs.Inside.{spot_text, ElementAt, element_spot}
use Rattle.source_steps.proofs.CellsAfter.{text_cells, pairs_cells}
use Rattle.source_steps.proofs.TextBytes.{place_within}

-- one cell put, in two maps that are the same
pub one_put : (view other : Cell → Option Content) (own : Cell) (what : Content) (cell : Cell) → AreSameCells view other → with_content own what view cell ≡ with_content own what other cell
one_put view other own what cell same = ap (λ o. if is_cell own cell then Some what else o) (same cell)

-- no number is made
count_same : (made more : ℕ) → more ≡ 0 → made ≡ max made more
count_same made more e = omega (arith, e)

-- characters
pub text_told : (view : Cell → Option Content) (s : Source) (n : NodeName) (text : List ℕ) → AreSameCells view (cell_of s) → text_at s n.0 ≡ Some text → text_in view n ≡ text
text_told view s n text same there =
    let at = spot_text s n.0 text there in
    ap told_text (same (cell_at facet.Text n) ∙ ap (option_and_then (facet_of facet.Text)) at.2)

text_stepped : (view : Cell → Option Content) (changes : List CellChange) (s : Source) (n : NodeName) (change : List ℕ → List ℕ) (text : List ℕ) → AreSameCells view (cell_of s) → text_at s n.0 ≡ Some text →
    changes ≡ put facet.Text n.0 (kept.Text (change (text_in view n))) ∷ [] → (cell : Cell) →
    changed_by changes view cell ≡ with_content (cell_at facet.Text n) (content.Text (change text)) (cell_of s) cell
text_stepped view changes s n change text same there is cell =
    ap (λ (cs : List CellChange). changed_by cs view cell) is
    ∙ ap (λ t. with_content (cell_at facet.Text n) (content.Text (change t)) view cell) (text_told view s n text same there)
    ∙ one_put view (cell_of s) (cell_at facet.Text n) (content.Text (change text)) cell same

pub insert_steps : (view : Cell → Option Content) (n : NodeName) (at : ℕ) (piece : List ℕ) (step : Step) →
    step.changes ≡ put facet.Text n.0 (kept.Text (inserted at piece (text_in view n))) ∷ [] → step.undoing ≡ RemoveText n at (at + length (encode_utf8_all piece)) → step.made ≡ 0 → Steps view (InsertText n at piece) step
insert_steps view n at piece step is back count = record {
  left = λ s ready cell.
      text_stepped view step.changes s n (inserted at piece) ready.may.0 ready.cells ready.may.1 is cell
      ∙ sym (text_cells s n.0 (inserted at piece) ready.may.0 ready.may.1 cell);
  takes_back = λ s ready. back;
  counts = λ s ready. count_same s.made step.made count;
}

pub insert_may : (view : Cell → Option Content) (n : NodeName) (at : ℕ) (piece : List ℕ) → MayStep view (InsertText n at piece) →
    IsPlaceIn (text_in view n) at × (at + length (encode_utf8_all piece) < 2 ^ 64)
insert_may view n at piece may =
    let ready = may.1 in
    let text = ready.may.0 in
    let told = text_told view may.0 n text ready.cells ready.may.1 in
    let within = place_within text at ready.may.2 in
    let room = ready.may.3 in
    (subst (λ t. IsPlaceIn t at) (sym told) ready.may.2, omega (arith, within, room))

pub remove_steps : (view : Cell → Option Content) (n : NodeName) (from to : ℕ) (step : Step) →
    step.changes ≡ put facet.Text n.0 (kept.Text (removed from to (text_in view n))) ∷ [] → step.undoing ≡ InsertText n from (between from to (text_in view n)) → step.made ≡ 0 → Steps view (RemoveText n from to) step
remove_steps view n from to step is back count = record {
  left = λ s ready cell.
      text_stepped view step.changes s n (removed from to) ready.may.0 ready.cells ready.may.1 is cell
      ∙ sym (text_cells s n.0 (removed from to) ready.may.0 ready.may.1 cell);
  takes_back = λ s ready.
      back
      ∙ ap (λ t. InsertText n from (between from to t)) (text_told view s n ready.may.0 ready.cells ready.may.1)
      ∙ ap (InsertText n from) (sym (ap (λ o. option_map_or (between from to) o []) ready.may.1));
  counts = λ s ready. count_same s.made step.made count;
}

pub remove_may : (view : Cell → Option Content) (n : NodeName) (from to : ℕ) → MayStep view (RemoveText n from to) → IsPlaceIn (text_in view n) from × IsPlaceIn (text_in view n) to × (from ≤ to)
remove_may view n from to may =
    let ready = may.1 in
    let told = text_told view may.0 n ready.may.0 ready.cells ready.may.1 in
    (subst (λ t. IsPlaceIn t from) (sym told) ready.may.2, subst (λ t. IsPlaceIn t to) (sym told) ready.may.3, ready.may.4)

-- attributes
pub pairs_told : (view : Cell → Option Content) (s : Source) (n : NodeName) (kids : Forest) (at : ElementAt s n.0 kids) → AreSameCells view (cell_of s) → pairs_in view n ≡ at.pairs
pairs_told view s n kids at same = ap told_pairs (same (cell_at facet.Attrs n) ∙ ap (option_and_then (facet_of facet.Attrs)) at.there)

pairs_stepped : (view : Cell → Option Content) (changes : List CellChange) (s : Source) (n : NodeName) (change : List AttrPair → List AttrPair) (kids : Forest) (at : ElementAt s n.0 kids) → AreSameCells view (cell_of s) →
    changes ≡ put facet.Attrs n.0 (kept.Attrs (change (pairs_in view n))) ∷ [] → (cell : Cell) →
    changed_by changes view cell ≡ with_content (cell_at facet.Attrs n) (content.Attrs (change at.pairs)) (cell_of s) cell
pairs_stepped view changes s n change kids at same is cell =
    ap (λ (cs : List CellChange). changed_by cs view cell) is
    ∙ ap (λ ps. with_content (cell_at facet.Attrs n) (content.Attrs (change ps)) view cell) (pairs_told view s n kids at same)
    ∙ one_put view (cell_of s) (cell_at facet.Attrs n) (content.Attrs (change at.pairs)) cell same

pub set_steps : (view : Cell → Option Content) (n : NodeName) (name : NameId) (value : List ℕ) (step : Step) →
    step.changes ≡ put facet.Attrs n.0 (kept.Attrs (with_value name value (pairs_in view n))) ∷ [] → step.undoing ≡ old_value n name (value_among name (pairs_in view n)) →
    step.made ≡ 0 → Steps view (SetAttr n name value) step
set_steps view n name value step is back count = record {
  left = λ s ready cell.
      (let at = element_spot s n.0 ready.may.0.0 ready.may.0.1 ready.may.0.2 in
      pairs_stepped view step.changes s n (with_value name value) ready.may.0.0.kids at ready.cells is cell
      ∙ sym (pairs_cells s n.0 ready.may.0.0.kids at (with_value name value) cell));
  takes_back = λ s ready.
      (let at = element_spot s n.0 ready.may.0.0 ready.may.0.1 ready.may.0.2 in
      back ∙ ap (λ ps. old_value n name (value_among name ps)) (pairs_told view s n ready.may.0.0.kids at ready.cells ∙ sym at.are));
  counts = λ s ready. count_same s.made step.made count;
}

pub unset_steps : (view : Cell → Option Content) (n : NodeName) (name : NameId) (step : Step) →
    step.changes ≡ put facet.Attrs n.0 (kept.Attrs (without_name name (pairs_in view n))) ∷ [] →
    step.undoing ≡ PutAttr n (place_among name (pairs_in view n)) name (unwrap_or (value_among name (pairs_in view n)) []) → step.made ≡ 0 → Steps view (RemoveAttr n name) step
unset_steps view n name step is back count = record {
  left = λ s ready cell.
      (let at = element_spot s n.0 ready.may.0.0 ready.may.0.1 ready.may.0.2 in
      pairs_stepped view step.changes s n (without_name name) ready.may.0.0.kids at ready.cells is cell
      ∙ sym (pairs_cells s n.0 ready.may.0.0.kids at (without_name name) cell));
  takes_back = λ s ready.
      (let at = element_spot s n.0 ready.may.0.0 ready.may.0.1 ready.may.0.2 in
      back ∙ ap (λ ps. PutAttr n (place_among name ps) name (unwrap_or (value_among name ps) [])) (pairs_told view s n ready.may.0.0.kids at ready.cells ∙ sym at.are));
  counts = λ s ready. count_same s.made step.made count;
}

pub put_steps : (view : Cell → Option Content) (n : NodeName) (place : ℕ) (name : NameId) (value : List ℕ) (step : Step) →
    step.changes ≡ put facet.Attrs n.0 (kept.Attrs (insert (pairs_in view n) place (pair_of name value))) ∷ [] → step.undoing ≡ RemoveAttr n name →
    step.made ≡ 0 → Steps view (PutAttr n place name value) step
put_steps view n place name value step is back count = record {
  left = λ s ready cell.
      (let at = element_spot s n.0 ready.may.0.0 ready.may.0.1 ready.may.0.2 in
      pairs_stepped view step.changes s n (λ ps. insert ps place (pair_of name value)) ready.may.0.0.kids at ready.cells is cell
      ∙ sym (pairs_cells s n.0 ready.may.0.0.kids at (λ ps. insert ps place (pair_of name value)) cell));
  takes_back = λ s ready. back;
  counts = λ s ready. count_same s.made step.made count;
}

pub put_may : (view : Cell → Option Content) (n : NodeName) (place : ℕ) (name : NameId) (value : List ℕ) → MayStep view (PutAttr n place name value) → place ≤ length (pairs_in view n)
put_may view n place name value may =
    let ready = may.1 in
    let at = element_spot may.0 n.0 ready.may.0.0 ready.may.0.1 ready.may.0.2 in
    subst (λ ps. place ≤ length ps) (at.are ∙ sym (pairs_told view may.0 n ready.may.0.0.kids at ready.cells)) ready.may.2

-- what three clauses say of one result
pub three_ok : {X E : Type 0} (r : Result X E) (P Q R S : X → Type 0) → ((x : X) → P x → Q x → R x → S x) → IfOk r P → IfOk r Q → IfOk r R → IfOk r S
three_ok (Ok x) P Q R S all p q r = all x p q r
three_ok (Err e) P Q R S all p q r = tt
