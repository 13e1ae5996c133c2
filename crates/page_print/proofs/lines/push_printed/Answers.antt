use Rattle.std.proofs.Common.{◌≡◌, ℕ, List, [], ◌++◌, map, sym, ap, ◌∙◌, append_assoc, append-nil}
use Rattle.std.proofs.lemmas.List.{nil_from_length, map-append}
use Rattle.std.proofs.lemmas.Str.{IsUtf8-past_char}
use Rattle.std.specs.Char.{encode_utf8}
use Rattle.std.specs.String.{string_bytes}
use Rattle.page_print.specs.Print.{printed}
use Rattle.page_print.proofs.Printed.{encode_printed}
use Rattle.page_print.proofs.lines.push_printed.Goals as goal

pub loop-character-preserved : goal.loop-character-preserved
loop-character-preserved c =
    let rest : List ℕ = c.next.new.self.rest.now in
    let before : List ℕ = string_bytes c.loop-character.out in
    let left : List ℕ = map printed rest in
    let past = c.in-Some.ensures.steps.0 in
    record {
      utf8 = IsUtf8-past_char _ rest c.in-Some.character c.loop-character.invariant.utf8 past;
      so_far = ap (λ t. t ++ left) c.in_ok-push.ensures.bytes ∙ append_assoc before (encode_utf8 c.printed.result) left
          ∙ ap (λ p. before ++ (encode_utf8 p ++ left)) c.printed.ensures
          ∙ ap (λ t. before ++ (t ++ left)) (sym (encode_printed c.in-Some.character))
          ∙ ap (λ t. before ++ t) (sym (ap (map printed) past ∙ map-append printed (encode_utf8 c.in-Some.character) rest))
          ∙ c.loop-character.invariant.so_far;
    }

pub returns : goal.returns
unfolding lib.Utf8.encode
returns c =
    let none : c.loop-character.character-iterator.rest.now ≡ [] = nil_from_length _ c.in-None.ensures.steps.0.0 in
    sym (append-nil (string_bytes c.loop-character.out)) ∙ ap (λ t. string_bytes c.loop-character.out ++ map printed t) (sym none) ∙ c.loop-character.invariant.so_far
