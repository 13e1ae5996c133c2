-- A place between two characters is one at which std cuts a text.
use Rattle.std.proofs.Common.{◌≡◌, ℕ, zero, suc, List, encode_utf8_all, subst, sym, arith}
use Rattle.std.specs.Str.{IsUtf8, IsCharBoundary}
use Rattle.std.proofs.lemmas.Str.{IsCharBoundary-start}
use Rattle.serna_kinds.specs.Texts.{IsPlaceIn}
use Rattle.serna_kinds.proofs.TextLemmas.{split_place}

pub boundary : (text : List ℕ) (at : ℕ) (bytes : List ℕ) → bytes ≡ encode_utf8_all text → IsUtf8 bytes → IsPlaceIn text at → IsCharBoundary bytes at
boundary text zero bytes same u place = IsCharBoundary-start bytes u
boundary text (suc n) bytes same u place =
    subst (λ bs. IsCharBoundary bs (suc n)) (sym same) (let split = split_place text (suc n) place in (split.0, λ within. split.1 (omega arith) within))
