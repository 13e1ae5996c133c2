-- The bytes of a text are the encoding of its characters.
use Rattle.std.proofs.Common.{ℕ, List, ◌++◌, ap, ◌∙◌, sym, subst, encode_utf8_all, Result, Ok, Err, IfOk}
use Rattle.std.proofs.lemmas.Str.{encodes-chars, IsUtf8-string_bytes}
use Rattle.xpath_syntax.specs.Reading.{IsReading}
use Rattle.xpath_writer.specs.Writing.{written}
use Rattle.xpath_writer.proofs.ReadBack.{reads_back}
use Rattle.xpath_writer.proofs.write.write_expr.Goals as goal

if_ok : {A E : Type 0} (P Q : A → Type 0) (r : Result A E) → ((x : A) → P x → Q x) → IfOk r P → IfOk r Q
if_ok P Q (Ok x) f p = f x p
if_ok P Q (Err e) f p = tt

pub returns-clause-text : goal.returns-clause-text
returns-clause-text c =
    if_ok _ _ c.from_string.result
    (λ text e. ap encode_utf8_all e ∙ encodes-chars _ (IsUtf8-string_bytes c.push_expr.new.out) ∙ c.in_ok-push_expr.ensures ∙ ap (λ (l : List ℕ). l ++ written c.args.spaces.now c.args.names.now c.args.expr.now) c.new-text.ensures.bytes)
    c.from_string.ensures

pub returns-clause-back : goal.returns-clause-back
returns-clause-back c =
    if_ok _ _ c.from_string.result
    (λ text e read utf8 texts has reading.
    subst (λ l. IsReading c.args.spaces.now c.args.names.now l c.args.expr.now)
    (sym (ap encode_utf8_all e ∙ encodes-chars _ (IsUtf8-string_bytes c.push_expr.new.out) ∙ c.in_ok-push_expr.ensures ∙ ap (λ (l : List ℕ). l ++ written c.args.spaces.now c.args.names.now c.args.expr.now) c.new-text.ensures.bytes))
    (reads_back c.args.spaces.now c.args.names.now read c.args.expr.now utf8 texts has reading))
    c.from_string.ensures
