use Rattle.std.proofs.Common.{List, [], ◌∷◌, ◌++◌, ◌∙◌, sym, ap, subst, arith}
use Rattle.std.proofs.lemmas.Result.{on_ok_weaker}
use Rattle.std.proofs.lemmas.List.{take_all}
use Rattle.std.specs.List.{flat_map}
use Rattle.std.specs.Option.{option_map}
use Rattle.serna_kinds.specs.declared.cells.AttrPair.{AttrPair}
use Rattle.source_model.specs.Cells.{cell_of}
use Rattle.style_sheet.specs.declared.style.Instruction.{Instruction}
use Rattle.style_sheet.specs.Bodies.{body_of, size_of}
use Rattle.template_run.specs.Instances.{attribute_parts, element_parts, body_parts}
use Rattle.template_run.specs.Results.{GrowsBy}
use Rattle.template_run.proofs.BodyLemmas.{grown_more, grown_alone, grown_element, item_le-size}
use Rattle.template_run.proofs.body.Site.+instructions.Goals as goal

pub add_body-add_instruction-requires : goal.add_body-add_instruction-requires
add_body-add_instruction-requires g t c κs lives = (
  omega (
    arith,
    item_le-size c.instructions-instruction-items.result.now c.loop-instruction.instruction-index c.instruction-item.result (omega arith) c.instruction-item.is,
    ap size_of c.instructions-instruction-items.ensures,
  ),
  lives,
)

pub add_body-returns-in_err-add_instruction-clause-before : goal.add_body-returns-in_err-add_instruction-clause-before
add_body-returns-in_err-add_instruction-clause-before g t c other agrees = c.loop-instruction.invariant.0 other (c.add_instruction.ensures.before other agrees)

pub add_body-returns-in_err-add_instruction-clause-within : goal.add_body-returns-in_err-add_instruction-clause-within
add_body-returns-in_err-add_instruction-clause-within g t c allowed cells old = c.add_instruction.ensures.within allowed cells (c.loop-instruction.invariant.3 allowed cells old)

pub add_body-loop-instruction-preserved : goal.add_body-loop-instruction-preserved
add_body-loop-instruction-preserved g t c = (
  λ other agrees. c.loop-instruction.invariant.0 other (c.add_instruction.ensures.before other agrees),
  c.add_instruction.ensures.place ∙ c.loop-instruction.invariant.1,
  λ table source context agrees knows is.
      grown_more table source c.args.rule context c.args.out.now c.loop-instruction.out c.add_instruction.new.out c.instructions-instruction-items.result.now c.loop-instruction.instruction-index
      c.instruction-item.result (omega arith) c.instruction-item.is
      (c.loop-instruction.invariant.2 table source context (c.add_instruction.ensures.before (cell_of source) agrees) knows is)
      (c.in_ok-add_instruction.ensures.value table source context agrees knows is),
  λ allowed cells old. c.add_instruction.ensures.within allowed cells (c.loop-instruction.invariant.3 allowed cells old),
)

pub add_body-returns-clause-value : goal.add_body-returns-clause-value
add_body-returns-clause-value g t c table source context agrees knows is =
    subst (GrowsBy c.args.out.now c.loop-instruction.out)
    (ap (λ (xs : List Instruction). body_parts table source c.args.rule context (body_of xs))
    (take_all c.loop-instruction.instruction-index c.instructions-instruction-items.result.now (omega arith))
    ∙ ap (body_parts table source c.args.rule context) c.instructions-instruction-items.ensures)
    (c.loop-instruction.invariant.2 table source context agrees knows is)

pub add_instruction-returns-in_ok-add_body-in-Element-clause-value : goal.add_instruction-returns-in_ok-add_body-in-Element-clause-value
add_instruction-returns-in_ok-add_body-in-Element-clause-value g t c =
    on_ok_weaker c.say_finish.result
    (λ finished table source context agrees knows is.
    subst (λ (one : Instruction). GrowsBy c.args.out.now c.say_finish.new.self (body_parts table source c.args.rule context (body_of (one ∷ [])))) (sym c.in-Element.is)
    (grown_alone table source c.args.rule context c.args.out.now c.say_finish.new.self
    (option_map (element_parts c.args.rule c.in-Element.name c.in-Element.attributes) (body_parts table source c.args.rule context c.in-Element.content))
    (grown_element table source c.args.rule context c.args.out.now c.say_begin.new.self c.say_attributes.new.self c.add_body.new.out c.say_finish.new.self c.in-Element.name c.in-Element.attributes
    (body_parts table source c.args.rule context c.in-Element.content) c.in_ok-say_begin-in-Element.ensures
    (c.in_ok-say_attributes-in-Element.ensures ∙ ap (λ (pairs : List AttrPair). c.say_begin.new.self ++ flat_map (attribute_parts c.args.rule) pairs) c.as_slice.ensures)
    (c.in_ok-add_body-in-Element.ensures.value table source context agrees knows is) finished)))
    c.say_finish.ensures
