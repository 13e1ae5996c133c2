-- The text of all pages, as characters.
use Rattle.std.proofs.Common.{◌≡◌, ap, ◌∙◌, encode_utf8_all, take_all, arith}
use Rattle.std.specs.List.{flat_map}
use Rattle.std.specs.String.{string_bytes}
use Rattle.std.specs.Str.{chars}
use Rattle.std.proofs.lemmas.Result.{IfOk-weaker}
use Rattle.std.proofs.lemmas.Str.{encodes-chars, IsUtf8-string_bytes}
use Rattle.page_print.specs.Print.{page_text, pages_text}
use Rattle.page_print.proofs.print.page_text.Goals as goal

pub returns : goal.returns
returns c =
    let whole : string_bytes c.loop-page.out ≡ pages_text c.args.pages.now =
    c.loop-page.invariant ∙ ap (flat_map page_text) (take_all c.loop-page.page-index c.args.pages.now (omega arith)) in
    IfOk-weaker c.from_string.result (λ text. text ≡ chars (string_bytes c.loop-page.out)) (λ text. encode_utf8_all text ≡ pages_text c.args.pages.now)
    (λ text is. ap encode_utf8_all is ∙ encodes-chars _ (IsUtf8-string_bytes c.loop-page.out) ∙ whole) c.from_string.ensures
