-- What is found is what `at` takes.
use Rattle.std.proofs.Common.{sym}
use Rattle.live_editor.proofs.Looking.{takes_first, takes_caret, takes_none, place_found}
use Rattle.live_editor.proofs.editor.caret_at.Goals as goal

pub caret_of-requires-clause-within : goal.caret_of-requires-clause-within
caret_of-requires-clause-within c = (place_found c.args.page c.args.line c.args.column c.in-Some.index c.args.boundaries.now (sym c.in-Some.ensures)).0

pub caret_of-requires-clause-place : goal.caret_of-requires-clause-place
caret_of-requires-clause-place c = (place_found c.args.page c.args.line c.args.column c.in-Some.index c.args.boundaries.now (sym c.in-Some.ensures)).1

pub returns-in-Some-clause-first : goal.returns-in-Some-clause-first
returns-in-Some-clause-first c = takes_first c.args.page c.args.line c.args.column c.in-Some.index c.args.boundaries.now c.caret_of.result (sym c.in-Some.ensures) c.caret_of.ensures

pub returns-in-Some-clause-answer : goal.returns-in-Some-clause-answer
returns-in-Some-clause-answer c = λ editor. takes_caret editor c.args.page c.args.line c.args.column c.in-Some.index c.args.boundaries.now c.caret_of.result (sym c.in-Some.ensures) c.caret_of.ensures

pub returns-in-None-clause-answer : goal.returns-in-None-clause-answer
returns-in-None-clause-answer c = λ editor. takes_none editor c.args.page c.args.line c.args.column c.args.boundaries.now c.refusal_at.result (sym c.in-None.ensures) c.refusal_at.ensures
