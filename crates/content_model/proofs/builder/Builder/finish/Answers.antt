use Rattle.std.proofs.Common.{◌≡◌, true, false, sym, ◌∙◌}
use Rattle.content_model.proofs.Building.{group_ends, group_open, mixed_ends, mixed_done}
use Rattle.content_model.proofs.builder.Builder.finish.Goals as goal

pub returns-in-MixedDone : goal.returns-in-MixedDone
returns-in-MixedDone c = λ number s shows. mixed_done number c.args.self s c.in-MixedDone.is shows

pub returns-then-is_nil : goal.returns-then-is_nil
returns-then-is_nil c = λ number s shows.
    group_ends number c.args.self s c.in-Behind.field-0 c.in-Behind.is (sym c.as_slice.ensures.value ∙ c.is_nil.ensures.0 c.if-is_nil.true) shows

pub returns-else-is_nil : goal.returns-else-is_nil
returns-else-is_nil c = λ number s shows.
    group_open number c.args.self s c.in-Behind.field-0 c.in-Behind.is (λ none. let yes = c.is_nil.ensures.1 (c.as_slice.ensures.value ∙ none) in let no : true ≡ false = sym yes ∙ c.if-is_nil.false in cc) shows

pub returns-then-is_nil-2 : goal.returns-then-is_nil-2
returns-then-is_nil-2 c = λ number s shows.
    mixed_ends number c.args.self s c.in-MixedEnd.is (sym c.as_slice-in-MixedEnd.ensures.value ∙ c.is_nil-in-MixedEnd.ensures.0 c.if-is_nil-2.true) shows
