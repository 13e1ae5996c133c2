-- Each token of a text that was read can be written.
use Rattle.std.proofs.Common.{◌≡◌, ◌≤◌, ◌+◌, ◌-◌, ℕ, zero, suc, pred, Bool, true, false, cond, List, [], ◌∷◌, ◌++◌, length, length-append, take, drop, None, sym, refl, ap, ◌∙◌, subst, append_assoc, arith}
use Rattle.std.specs.List.{AllByRecursion}
use Rattle.std.specs.Str.{IsUtf8, IsCharBoundary}
use Rattle.std.proofs.lemmas.Str.{IsUtf8-drop, IsUtf8-take}
use Rattle.std.proofs.Math.Seq.{drop-append_seam, take-append_seam}
use Rattle.serna_kinds.specs.Names.{NameParts, Space}
use Rattle.xpath_tokens.specs.declared.tokens.Kind.{Kind}
use Rattle.xpath_tokens.specs.declared.tokens.Token.{Token}
use Rattle.xpath_tokens.specs.Spelling.{IsSpelled, MakeUp}
use Rattle.serna_kinds.specs.Blanks.{is_space}
use Rattle.xpath_tokens.specs.Tokens.{front, ends_operand, token_at, tokens_from, tokens_of, IsCut}
use Rattle.xpath_tokens.specs.Symbols.{written_at, symbols_at}
use Rattle.xpath_tokens.specs.declared.faults.ReadAs.TheVariants as how
use Rattle.xpath_tokens.specs.Faults.{fault_at, fault_among}
use Rattle.xpath_writer.specs.Writable.{IsWritable}
use Rattle.xpath_tokens.specs.Named.{HasName}
use Rattle.xpath_tokens.proofs.Cuts.{is_at, cut_first, cut_space, cut_token, is_cut}
use Rattle.xpath_tokens.proofs.Spelled.{front_spelled, make_up}
use Rattle.xpath_syntax.proofs.Arity.{no_later}
use Rattle.xpath_writer.proofs.Readable.{token_writable}

-- Tokens are cut between characters

next_drop : (text : List ℕ) (at b : ℕ) (rest : List ℕ) → drop at text ≡ b ∷ rest → drop (suc at) text ≡ rest
next_drop text at b rest e =
    let one : at + 1 ≡ suc at = omega arith in
    ap (λ n. drop n text) (sym one) ∙ (is_at text at b rest e).behind

cuts : (text : List ℕ) → IsUtf8 text → (l : List ℕ) (skip : ℕ) (behind : Bool) (at : ℕ) → drop at text ≡ l → IsCharBoundary text (at + skip) → AllByRecursion (IsCut text) (tokens_from skip behind at l)
unfolding tokens_from
cuts text utf8 [] zero behind at e cut = tt
cuts text utf8 [] (suc skip) behind at e cut = tt
cuts text utf8 (b ∷ rest) (suc skip) behind at e cut =
    let same : at + suc skip ≡ suc at + skip = omega arith in
    cuts text utf8 rest skip behind (suc at) (next_drop text at b rest e) (subst (IsCharBoundary text) same cut)
cuts text utf8 (b ∷ rest) zero behind at e cut =
    go (is_space b) refl (cuts text utf8 rest zero behind (suc at) (next_drop text at b rest e)) (cuts text utf8 rest (pred t.1) (ends_operand t.0) (suc at) (next_drop text at b rest e))
  where
    t : Kind × ℕ
    t = front behind (b ∷ rest)

    here : IsCharBoundary text at
    here = let same : at + 0 ≡ at = omega arith in subst (IsCharBoundary text) same cut

    go : (v : Bool) → is_space b ≡ v → (IsCharBoundary text (suc at + 0) → AllByRecursion (IsCut text) (tokens_from zero behind (suc at) rest))
        → (IsCharBoundary text (suc at + pred t.1) → AllByRecursion (IsCut text) (tokens_from (pred t.1) (ends_operand t.0) (suc at) rest))
        → AllByRecursion (IsCut text) (cond v (tokens_from zero behind (suc at) rest) (token_at at t ∷ tokens_from (pred t.1) (ends_operand t.0) (suc at) rest))
    go true s space token =
        let found = is_at text at b rest e in
        let same : at + 1 ≡ suc at + 0 = omega arith in
        space (subst (IsCharBoundary text) same (cut_space text at utf8 found.inside (ap is_space found.byte ∙ s)))
    go false s space token =
        let f = front_spelled behind b rest in
        let first : t ≡ front behind (drop at text) = ap (front behind) (sym e) in
        let some = f.some in
        let size = f.size in
        let same : at + t.1 ≡ suc at + pred t.1 = last t.1 (omega arith) in
        (is_cut text behind at t utf8 here first, token (subst (IsCharBoundary text) same (cut_token text behind at t utf8 here first)))
      where
        last : (n : ℕ) → 1 ≤ n → at + n ≡ suc at + pred n
        last zero le = absurd (omega arith)
        last (suc n) le = omega arith

pub all_cut : (text : List ℕ) → IsUtf8 text → AllByRecursion (IsCut text) (tokens_of text)
all_cut text utf8 = cuts text utf8 text zero false 0 refl (cut_first text utf8)

-- Each token by itself

module _ (spaces : List Space) (names : List NameParts) (text : List ℕ) (utf8 : IsUtf8 text) (uris : AllByRecursion (λ (x : Space). IsUtf8 x.uri) spaces) where
  written_is : (before gap written rest : List ℕ) (k : Kind) → text ≡ before ++ (gap ++ (written ++ rest))
      → written_at text (record { kind = k; start = length before + length gap; end = (length before + length gap) + length written }) ≡ written
  written_is before gap written rest k whole =
      let n = length before + length gap in
      let size : (n + length written) - n ≡ length written = omega arith in
      let place : length (before ++ gap) ≡ n = length-append before gap in
      ap (λ m. take m (drop n text)) size
      ∙ ap (λ t. take (length written) (drop n t)) (whole ∙ sym (append_assoc before gap (written ++ rest)))
      ∙ ap (λ m. take (length written) (drop m ((before ++ gap) ++ (written ++ rest)))) (sym place)
      ∙ ap (take (length written)) (drop-append_seam (before ++ gap) (written ++ rest))
      ∙ take-append_seam written rest

  spelled_at : (t : Token) (before gap written rest : List ℕ) → text ≡ before ++ (gap ++ (written ++ rest)) → t.start ≡ length before + length gap → t.end ≡ t.start + length written → written_at text t ≡ written
  spelled_at t before gap written rest whole start end =
      ap (λ s. take (t.end - s) (drop s text)) start
      ∙ ap (λ f. take (f - (length before + length gap)) (drop (length before + length gap) text)) (end ∙ ap (λ s. s + length written) start)
      ∙ written_is before gap written rest t.kind whole

  cut_utf8 : (t : Token) → IsCut text t → IsUtf8 (written_at text t)
  cut_utf8 t is = IsUtf8-take (drop t.start text) (t.end - t.start) (IsUtf8-drop text t.start utf8 is.1) is.2

  all_writable : (tokens : List Token) (before left : List ℕ) → text ≡ before ++ left → MakeUp (length before) tokens left → AllByRecursion (IsCut text) tokens → fault_among how.Expression spaces text tokens ≡ None
      → AllByRecursion (λ t. HasName spaces names t.kind (written_at text t)) tokens → AllByRecursion (IsWritable spaces names) (symbols_at spaces names text tokens)
  all_writable [] before left whole up cut fault has = tt
  all_writable (t ∷ ts) before left whole (gap, written, rest, spaces_are, left_is, spelled, some, start, end, up) cut fault has =
      let all : text ≡ before ++ (gap ++ (written ++ rest)) = whole ∙ ap (λ l. before ++ l) left_is in
      let this = spelled_at t before gap written rest all start end in
      let faults = no_later (fault_at how.Expression spaces t.kind (written_at text t) ts) t.start (fault_among how.Expression spaces text ts) fault in
      let later = before ++ (gap ++ written) in
      let place : t.end ≡ length later = end ∙ ap (λ s. s + length written) start ∙ sym (length-append before (gap ++ written) ∙ ap (λ n. length before + n) (length-append gap written) ∙ regroup (length before) (length gap) (length written)) in
      let split : text ≡ later ++ rest = all ∙ ap (λ l. before ++ l) (sym (append_assoc gap written rest)) ∙ sym (append_assoc before (gap ++ written) rest) in (
        token_writable spaces names t.kind (written_at text t) ts uris (subst (IsSpelled t.kind) (sym this) spelled) (cut_utf8 t cut.0) faults.0 has.0,
        all_writable ts later rest split (subst (λ n. MakeUp n ts rest) place up) cut.1 faults.1 has.1,
      )
    where
      regroup : (a b c : ℕ) → a + (b + c) ≡ (a + b) + c
      regroup a b c = omega arith

  pub text_writable : fault_among how.Expression spaces text (tokens_of text) ≡ None → AllByRecursion (λ t. HasName spaces names t.kind (written_at text t)) (tokens_of text)
      → AllByRecursion (IsWritable spaces names) (symbols_at spaces names text (tokens_of text))
  text_writable = all_writable (tokens_of text) [] text refl (make_up text) (all_cut text utf8)
