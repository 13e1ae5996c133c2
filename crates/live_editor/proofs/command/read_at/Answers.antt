-- Three parts, each of them a number, or none of the form.
use Rattle.std.proofs.Common.{◌≡◌, sym, ap, ◌∙◌, ℕ, Option, Some}
use Rattle.plain_editor.specs.Commands.{at_place, at_parts, parts_of}
use Rattle.live_editor.proofs.CommandLines.{at_three, at_place-none}
use Rattle.live_editor.proofs.command.read_at.Goals as goal
use Rattle.live_editor.proofs.command.read_at.Goals.{in_default-2-via-in-Some+in-Some+in_default, in_default-2-via-in-Some+in_default, in_default-2-via-in_default}

pub returns-in_default-2 : goal.returns-in_default-2
returns-in_default-2 c =
    let page = c.read_number.result in
    let line = c.read_number-2.result in
    let column = c.read_number-3.result in
    let read : at_place page line column ≡ at_parts (parts_of c.args.rest.now) =
    at_three c.args.rest.now c.in-Some.page.now c.in-Some.rest.now c.in-Some-split_at_space.line.now c.in-Some-split_at_space.column.now page line column c.in-Some.ensures.cut c.in-Some-split_at_space.ensures.cut c.read_number.ensures c.read_number-2.ensures c.read_number-3.ensures in
    elim c.in_default-2.branch [
      | in_default-2-via-in-Some+in-Some+in_default w ↦ sym (ap (at_place page line) w.in_default-2.is-2 ∙ at_place-none page line) ∙ read
      | in_default-2-via-in-Some+in_default w ↦
          sym (ap (λ (p : Option ℕ). at_place p line column) w.in_default-2.is-0 ∙ ap (λ (l : Option ℕ). at_place (Some w.in_default-2.field-0-0) l column) w.in_default-2.is-1) ∙ read
      | in_default-2-via-in_default w ↦ sym (ap (λ (p : Option ℕ). at_place p line column) w.in_default-2.is-0) ∙ read
    ]

pub returns : goal.returns
returns c =
    at_three c.args.rest.now c.in-Some.page.now c.in-Some.rest.now c.in-Some-split_at_space.line.now c.in-Some-split_at_space.column.now (Some c.in-Some-Some-Some.page) (Some c.in-Some-Some-Some.line) (Some c.in-Some-Some-Some.column) c.in-Some.ensures.cut c.in-Some-split_at_space.ensures.cut
    (sym c.in-Some-Some-Some.is-0 ∙ c.read_number.ensures) (sym c.in-Some-Some-Some.is-1 ∙ c.read_number-2.ensures) (sym c.in-Some-Some-Some.is-2 ∙ c.read_number-3.ensures)
