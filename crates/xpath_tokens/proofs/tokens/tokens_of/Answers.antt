use Rattle.std.proofs.Common.{◌≡◌, ◌∙◌, ◌+◌, ◌++◌, Bool, true, false, get_or, drop, length-drop, ap, sym, subst, arith}
use Rattle.std.proofs.lemmas.List.{take_rest}
use Rattle.serna_kinds.specs.Blanks.{is_space}
use Rattle.xpath_tokens.specs.Tokens.{tokens_from, tokens_of, front, ends_operand, token_at, IsCut}
use Rattle.std.specs.List.{AllByRecursion}
use Rattle.xpath_tokens.proofs.Cuts.{cut_first, cut_space, cut_token, is_cut, all_cut}
use Rattle.xpath_tokens.proofs.Runs.{no_more, past_space, with_token}
use Rattle.xpath_tokens.proofs.tokens.tokens_of.Goals as goal

pub loop-at-preserved-then-is_space : goal.loop-at-preserved-then-is_space
loop-at-preserved-then-is_space c =
    let text = c.args.text.now in
    let at = c.loop-at.at in
    let same = c.as_bytes-bytes.ensures.value in
    let is : is_space (get_or text at 0) ≡ true = ap (λ l. is_space (get_or l at 0)) (sym same) ∙ ap is_space (sym c.from.ensures) ∙ sym c.is_space.ensures ∙ c.if-is_space.true in
    record {
      within = omega (arith, c.as_bytes-bytes.ensures.len);
      left = ap (λ l. c.loop-at.tokens ++ l) (sym (past_space text c.loop-at.behind at (omega (arith, c.as_bytes-bytes.ensures.len)) is)) ∙ c.loop-at.invariant.left;
      cut = cut_space text at c.utf8.text (omega (arith, c.as_bytes-bytes.ensures.len)) is;
      tokens_cut = c.loop-at.invariant.tokens_cut;
    }

pub loop-at-preserved : goal.loop-at-preserved
loop-at-preserved c =
    let text = c.args.text.now in
    let at = c.loop-at.at in
    let same = c.as_bytes-bytes.ensures.value in
    let t = c.front-kind.result in
    let is : is_space (get_or text at 0) ≡ false = ap (λ l. is_space (get_or l at 0)) (sym same) ∙ ap is_space (sym c.from.ensures) ∙ sym c.is_space.ensures ∙ c.if-is_space.false in
    let found : t ≡ front c.loop-at.behind (drop at text) = c.front-kind.ensures.value ∙ ap (front c.loop-at.behind) (take_rest c.as_bytes-bytes.result.now at ∙ ap (drop at) same) in
    let rest = λ (b : Bool). tokens_from 0 b (at + t.1) (drop (at + t.1) text) in
    record {
      within = omega (arith, c.as_bytes-bytes.ensures.len, length-drop at c.as_bytes-bytes.result.now, c.front-kind.ensures.within);
      left =
          ap (λ b. c.push.new.self ++ rest b) c.ends_operand-behind.ensures ∙ ap (λ l. l ++ rest (ends_operand t.0)) c.in_ok-push.ensures.ok
          ∙ with_token text c.loop-at.behind at c.loop-at.tokens t (omega (arith, c.as_bytes-bytes.ensures.len)) is found c.front-kind.ensures.some c.loop-at.invariant.left;
      cut = cut_token text c.loop-at.behind at t c.utf8.text c.loop-at.invariant.cut found;
      tokens_cut = subst (AllByRecursion (IsCut text)) (sym c.in_ok-push.ensures.ok)
          (all_cut text c.loop-at.tokens (token_at at t) c.loop-at.invariant.tokens_cut (is_cut text c.loop-at.behind at t c.utf8.text c.loop-at.invariant.cut found));
    }

pub loop-at-init : goal.loop-at-init
loop-at-init c = record {
  within = omega arith;
  left = ap (λ l. l ++ tokens_of c.args.text.now) c.new-tokens.ensures;
  cut = cut_first c.args.text.now c.utf8.text;
  tokens_cut = subst (AllByRecursion (IsCut c.args.text.now)) (sym c.new-tokens.ensures) tt;
}

pub returns-clause-value : goal.returns-clause-value
returns-clause-value c = no_more c.args.text.now c.loop-at.behind c.loop-at.at c.loop-at.tokens (omega (arith, c.as_bytes-bytes.ensures.len)) c.loop-at.invariant.left
