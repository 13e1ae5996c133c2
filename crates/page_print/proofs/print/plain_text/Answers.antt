-- The text of all pages, as characters.
use Rattle.std.proofs.Common.{◌≡◌, ◌∷◌, [], ◌++◌, codes, ap, ◌∙◌, append_assoc, encode_utf8_all, take_all, arith}
use Rattle.std.specs.List.{flat_map}
use Rattle.std.specs.String.{string_bytes}
use Rattle.std.specs.Str.{chars}
use Rattle.std.proofs.lemmas.Result.{IfOk-weaker}
use Rattle.std.proofs.lemmas.Str.{encodes-chars, IsUtf8-string_bytes}
use Rattle.page_print.specs.Print.{page_shown, plain_line}
use Rattle.page_print.proofs.print.plain_text.Goals as goal

pub returns : goal.returns
returns c =
    let whole : string_bytes c.loop-page.out ≡ codes "plain " ++ flat_map page_shown c.args.pages.now =
    c.loop-page.invariant ∙ ap (λ pages. codes "plain " ++ flat_map page_shown pages) (take_all c.loop-page.page-index c.args.pages.now (omega arith)) in
    IfOk-weaker c.from_string.result (λ text. text ≡ chars (string_bytes c.push_str.new.self)) (λ text. encode_utf8_all text ≡ plain_line c.args.pages.now)
    (λ text is. ap encode_utf8_all is
    ∙ encodes-chars _ (IsUtf8-string_bytes c.push_str.new.self)
    ∙ c.in_ok-push_str.ensures.bytes
    ∙ ap (λ bytes. bytes ++ 10 ∷ []) whole
    ∙ append_assoc (codes "plain ") (flat_map page_shown c.args.pages.now) (10 ∷ [])) c.from_string.ensures
