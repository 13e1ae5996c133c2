use Rattle.std.proofs.Common.{◌≡◌, ℕ, List, ◌++◌, take, encode_utf8_all, IfOk, sym, ap, ◌∙◌, subst}
use Rattle.std.specs.Str.{chars}
use Rattle.std.specs.String.{string_bytes}
use Rattle.std.proofs.lemmas.Str.{IsUtf8-string_bytes, chars_from_encodes}
use Rattle.serna_kinds.specs.Texts.{removed}
use Rattle.source_steps.proofs.TextBytes.{boundary_of, bytes_removed, cut_before}
use Rattle.source_steps.proofs.text.without.Goals as goal

pub range-requires-clause-end_boundary : goal.range-requires-clause-end_boundary
range-requires-clause-end_boundary c = boundary_of c.args.text.now c.args.from c.utf8.text c.requires.from

pub range_from-requires : goal.range_from-requires
range_from-requires c _ = boundary_of c.args.text.now c.args.to c.utf8.text c.requires.to

pub returns : goal.returns
returns c =
    let final = c.push_str.new.self in
    let left : List ℕ = removed c.args.from c.args.to (chars c.args.text.now) in
    let bytes : string_bytes final ≡ encode_utf8_all left =
    c.in_ok-push_str.ensures.bytes ∙ ap (λ bs. bs ++ c.range_from.result.now) (c.in_ok-left.ensures.ok ∙ c.range.ensures.value ∙ cut_before c.args.text.now c.args.from)
    ∙ ap (λ bs. take c.args.from c.args.text.now ++ bs) c.range_from.ensures.value
    ∙ bytes_removed c.args.text.now c.args.from c.args.to c.utf8.text c.requires.from c.requires.to in
    subst (λ t. IfOk c.from_string.result (λ x. x ≡ t)) (sym (chars_from_encodes left (string_bytes final) (IsUtf8-string_bytes final) (sym bytes))) c.from_string.ensures
