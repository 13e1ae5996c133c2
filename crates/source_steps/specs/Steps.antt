-- How a primitive changes the cells that a source is kept by (this project's own).
use Rattle.std.specs.Prelude.{◌≡◌, ℕ, List, max, Option}
use Rattle.serna_kinds.specs.declared.cells.NodeName.{NodeName}
use Rattle.serna_kinds.specs.declared.cells.AttrPair.{AttrPair}
use Rattle.serna_kinds.specs.declared.cells.Cell.{Cell}
use Rattle.serna_kinds.specs.declared.cells.Facet.TheVariants as facet
use Rattle.serna_kinds.specs.Content.{Content}
use Rattle.source_model.specs.Source.{Source}
use Rattle.source_model.specs.Cells.{cell_of}
use Rattle.source_model.specs.Consistent.{IsLinked}
use Rattle.source_model.specs.Logged.{cell_at}
use Rattle.source_model.specs.Told.{told_text, told_pairs, AreSameCells}
use Rattle.frozen_tree.specs.Maps.{changed_by}
use Rattle.source_primitives.specs.declared.primitive.Primitive.{Primitive}
use Rattle.source_primitives.specs.Primitives.{applied, inverse, MayApply}
use Rattle.source_steps.specs.declared.step.Step.{Step}

-- what a node has by its cells: characters and attributes
abbrev pub text_in : (Cell → Option Content) → NodeName → List ℕ
text_in view n = told_text (view (cell_at facet.Text n))

abbrev pub pairs_in : (Cell → Option Content) → NodeName → List AttrPair
pairs_in view n = told_pairs (view (cell_at facet.Attrs n))

-- a source that has these cells, and to which a primitive may be applied
pub record IsReady (view : Cell → Option Content) (primitive : Primitive) (source : Source) : Type 0 where
  pub linked : IsLinked source
  pub cells : AreSameCells view (cell_of source)
  pub may : MayApply primitive source

-- there is one
abbrev pub MayStep : (Cell → Option Content) → Primitive → Type 0
MayStep view primitive = (source : Source) × IsReady view primitive source

-- The changed cells are those of what the primitive makes of the source, the other primitive takes it back, and the number is the
-- greatest that it puts in, if any.
pub record Steps (view : Cell → Option Content) (primitive : Primitive) (step : Step) : Type 0 where
  pub left : (source : Source) → IsReady view primitive source → AreSameCells (changed_by step.changes view) (cell_of (applied primitive source))
  pub takes_back : (source : Source) → IsReady view primitive source → step.undoing ≡ inverse primitive source
  pub counts : (source : Source) → IsReady view primitive source → (applied primitive source).made ≡ max source.made step.made
