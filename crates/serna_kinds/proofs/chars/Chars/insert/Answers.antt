-- The bytes of a text are those of the characters before the place, and those of the characters behind it.
use Rattle.std.proofs.Common.{◌≡◌, encode_utf8_all, sym, ap, ◌∙◌, subst}
use Rattle.std.specs.List.{insert_slice}
use Rattle.std.specs.String.{string_bytes}
use Rattle.std.specs.String.Boundary.{IsSplitPoint}
use Rattle.std.proofs.lemmas.Str.{IsUtf8-string_bytes, chars_from_encodes}
use Rattle.serna_kinds.specs.Texts.{inserted}
use Rattle.serna_kinds.proofs.TextLemmas.{split_place, put_in}
use Rattle.serna_kinds.proofs.chars.Chars.insert.Goals as goal

pub insert_str-requires : goal.insert_str-requires
insert_str-requires c =
    let same : string_bytes c.in_ok-text.text ≡ encode_utf8_all c.args.self.now = c.in_ok-text.ensures.ok ∙ c.as_text.ensures.bytes in
    subst (λ bs. IsSplitPoint bs c.args.at) (sym same) (split_place c.args.self.now c.args.at c.requires)

pub returns-clause-ok : goal.returns-clause-ok
returns-clause-ok c =
    let same : string_bytes c.in_ok-text.text ≡ encode_utf8_all c.args.self.now = c.in_ok-text.ensures.ok ∙ c.as_text.ensures.bytes in
    let bytes : insert_slice (string_bytes c.in_ok-text.text) c.args.at c.as_text-2.result.now ≡ encode_utf8_all (inserted c.args.at c.args.piece.now c.args.self.now) =
    ap (λ bs. insert_slice bs c.args.at c.as_text-2.result.now) same
    ∙ ap (λ bs. insert_slice (encode_utf8_all c.args.self.now) c.args.at bs) c.as_text-2.ensures.bytes
    ∙ put_in c.args.self.now c.args.piece.now c.args.at c.requires in
    c.in_ok-self.ensures ∙ sym (chars_from_encodes (inserted c.args.at c.args.piece.now c.args.self.now) (string_bytes c.insert_str.new.self) (IsUtf8-string_bytes c.insert_str.new.self) (sym (c.in_ok-insert_str.ensures.bytes ∙ bytes)))
