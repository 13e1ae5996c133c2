-- Words are tokens wherever an operand is wanted.
use Rattle.std.proofs.Common.{◌≡◌, ℕ, Bool, true, false, cond, nat_lt, List, [], ◌∷◌, ◌++◌, sym, refl, ap, subst, append_assoc}
use Rattle.serna_kinds.specs.declared.expressions.Axis.{Axis}
use Rattle.serna_kinds.specs.declared.expressions.Axis.TheVariants as axis
use Rattle.serna_kinds.specs.declared.expressions.CompareOp.TheVariants as compare
use Rattle.serna_kinds.specs.declared.expressions.TextFunction.TheVariants as on_text
use Rattle.xpath_trees.specs.declared.expr.ArithOp.TheVariants as arith_op
use Rattle.xpath_trees.specs.declared.expr.Function.{Function}
use Rattle.xpath_trees.specs.declared.expr.Function.TheVariants as function
use Rattle.xpath_trees.specs.declared.expr.Signs.{Signs}
use Rattle.xpath_trees.specs.declared.expr.Signs.TheVariants as sign
use Rattle.xpath_tokens.specs.declared.symbol.Operator.{Operator}
use Rattle.xpath_tokens.specs.declared.symbol.Operator.TheVariants as operator
use Rattle.xpath_tokens.specs.declared.tokens.Kind.TheVariants as kind
use Rattle.xpath_tokens.specs.Tokens.{begins_any}
use Rattle.xpath_writer.specs.Writing.{Word, Written, spelled, mark, operand, grouped, is_named, operator_kind, sign_words, axis_words, function_text, root_words, AreTokens, MayFollow, Lexes}

blank_any : (l : List ℕ) → begins_any (32 ∷ l) ≡ false
blank_any [] = refl
blank_any (c ∷ l) = refl

-- What may follow

pub ends : MayFollow false []
ends = record { behind_operand = tt; behind_slash = λ e. tt; no_callee = refl }

no_flag : (P : Type 0) → true ≡ false → P
no_flag P e = absurd (clash e)
  where
    clash : true ≡ false → ⊥
    clash h = cc

pub weaker : (before : Bool) (ws : List Word) → MayFollow before ws → MayFollow true ws
weaker before ws is = record { behind_operand = is.behind_operand; behind_slash = λ e. no_flag _ e; no_callee = is.no_callee }

pub any_flag : (before : Bool) (ws : List Word) → MayFollow false ws → MayFollow before ws
any_flag before ws is = record { behind_operand = is.behind_operand; behind_slash = λ e. is.behind_slash refl; no_callee = is.no_callee }

pub close_follows : (ws : List Word) → AreTokens true ws → MayFollow false (mark kind.Close ∷ ws)
close_follows ws is = record { behind_operand = (refl, refl, is); behind_slash = λ e. (refl, refl, is); no_callee = refl }

pub close_bracket_follows : (ws : List Word) → AreTokens true ws → MayFollow false (mark kind.CloseBracket ∷ ws)
close_bracket_follows ws is = record { behind_operand = (refl, refl, is); behind_slash = λ e. (refl, refl, is); no_callee = refl }

pub bracket_follows : (ws : List Word) → AreTokens false ws → MayFollow false (mark kind.OpenBracket ∷ ws)
bracket_follows ws is = record { behind_operand = (refl, refl, is); behind_slash = λ e. (refl, refl, is); no_callee = refl }

pub comma_follows : (ws : List Word) → AreTokens false ws → MayFollow false (mark kind.Comma ∷ ws)
comma_follows ws is = record { behind_operand = (refl, refl, is); behind_slash = λ e. (refl, refl, is); no_callee = refl }

pub slash_follows : (ws : List Word) → AreTokens false ws → MayFollow false (mark kind.Slash ∷ ws)
slash_follows ws is = record { behind_operand = (refl, refl, is); behind_slash = λ e. (refl, refl, is); no_callee = refl }

pub double_slash_follows : (ws : List Word) → AreTokens false ws → MayFollow false (mark kind.DoubleSlash ∷ ws)
double_slash_follows ws is = record { behind_operand = (refl, refl, is); behind_slash = λ e. (refl, refl, is); no_callee = refl }

pub operator_follows : (op : Operator) (ws : List Word) → AreTokens false ws → MayFollow (is_named (operator_kind op)) (mark (operator_kind op) ∷ ws)
operator_follows operator.Or ws is =
    record { behind_operand = (ap (λ v. cond v (kind.Within, 4) (kind.Or, 2)) (blank_any (spelled ws)), refl, is); behind_slash = λ e. no_flag _ e; no_callee = refl }
operator_follows operator.And ws is =
    record { behind_operand = (ap (λ v. cond v (kind.Within, 5) (kind.And, 3)) (blank_any (spelled ws)), refl, is); behind_slash = λ e. no_flag _ e; no_callee = refl }
operator_follows operator.Union ws is = record { behind_operand = (refl, refl, is); behind_slash = λ e. (refl, refl, is); no_callee = refl }
operator_follows (operator.Arith arith_op.Remainder) ws is =
    record { behind_operand = (ap (λ v. cond v (kind.Within, 5) (kind.Mod, 3)) (blank_any (spelled ws)), refl, is); behind_slash = λ e. no_flag _ e; no_callee = refl }
operator_follows (operator.Arith arith_op.Multiply) ws is = record { behind_operand = (refl, refl, is); behind_slash = λ e. no_flag _ e; no_callee = refl }
operator_follows (operator.Arith arith_op.Add) ws is = record { behind_operand = (refl, refl, is); behind_slash = λ e. (refl, refl, is); no_callee = refl }
operator_follows (operator.Arith arith_op.Subtract) ws is = record { behind_operand = (refl, refl, is); behind_slash = λ e. (refl, refl, is); no_callee = refl }
operator_follows (operator.Compare compare.Equal) ws is = record { behind_operand = (refl, refl, is); behind_slash = λ e. (refl, refl, is); no_callee = refl }
operator_follows (operator.Compare compare.NotEqual) ws is = record { behind_operand = (refl, refl, is); behind_slash = λ e. (refl, refl, is); no_callee = refl }
operator_follows (operator.Compare compare.Less) ws is = record { behind_operand = (refl, refl, is); behind_slash = λ e. (refl, refl, is); no_callee = refl }
operator_follows (operator.Compare compare.LessOrEqual) ws is = record { behind_operand = (refl, refl, is); behind_slash = λ e. (refl, refl, is); no_callee = refl }
operator_follows (operator.Compare compare.Greater) ws is = record { behind_operand = (refl, refl, is); behind_slash = λ e. (refl, refl, is); no_callee = refl }
operator_follows (operator.Compare compare.GreaterOrEqual) ws is = record { behind_operand = (refl, refl, is); behind_slash = λ e. (refl, refl, is); no_callee = refl }

-- Operands

pub always : (before : Bool) (words : List Word) → Lexes true words → Lexes before words
always before words is ws follow = is ws (weaker before ws follow)

pub lexes_grouped : (words : List Word) → Lexes false words → Lexes true (grouped words)
lexes_grouped words is ws follow =
    (refl, refl, subst (AreTokens false) (sym (append_assoc words (mark kind.Close ∷ []) ws)) (is (mark kind.Close ∷ ws) (close_follows ws follow.behind_operand)))

pub lexes_operand : (least : ℕ) (before : Bool) (e : Written) → ((b : Bool) → Lexes b (e.words b)) → Lexes before (operand least before e)
lexes_operand least before e is = go (nat_lt e.rank least)
  where
    go : (v : Bool) → Lexes before (cond v (grouped (e.words false)) (e.words before))
    go true = always before (grouped (e.words false)) (lexes_grouped (e.words false) (is false))
    go false = is before

pub lexes_signs : (signs : Signs) (before : Bool) (words : List Word) → Lexes before words → Lexes before (sign_words signs ++ words)
lexes_signs sign.Once before words is ws follow = (refl, refl, is ws follow)
lexes_signs sign.Twice before words is ws follow = (refl, refl, (refl, refl, is ws follow))

pub lexes_root : (before : Bool) → Lexes before (root_words before)
lexes_root true ws follow = (refl, refl, (refl, refl, (refl, refl, follow.behind_operand)))
lexes_root false ws follow = (refl, refl, follow.behind_slash refl)

-- words that are behind an axis
pub behind_axis : (on : Axis) (words : List Word) → AreTokens false words → AreTokens false (axis_words on ++ words)
behind_axis axis.Child words is = is
behind_axis axis.Attribute words is = (refl, refl, is)
behind_axis on words is = (refl, refl, (refl, refl, is))

-- a function's name before its `(`
pub callee_first : (f : Function) (ws : List Word) → AreTokens false ws → AreTokens false (let w : Word = (kind.Callee, function_text f) in w ∷ (mark kind.Open ∷ ws))
callee_first function.Last ws is = (refl, refl, (refl, refl, is))
callee_first function.Position ws is = (refl, refl, (refl, refl, is))
callee_first function.Count ws is = (refl, refl, (refl, refl, is))
callee_first function.LocalName ws is = (refl, refl, (refl, refl, is))
callee_first function.NamespaceUri ws is = (refl, refl, (refl, refl, is))
callee_first function.Name ws is = (refl, refl, (refl, refl, is))
callee_first function.Text ws is = (refl, refl, (refl, refl, is))
callee_first (function.On on_text.Concat) ws is = (refl, refl, (refl, refl, is))
callee_first (function.On on_text.StartsWith) ws is = (refl, refl, (refl, refl, is))
callee_first (function.On on_text.Contains) ws is = (refl, refl, (refl, refl, is))
callee_first (function.On on_text.SubstringBefore) ws is = (refl, refl, (refl, refl, is))
callee_first (function.On on_text.SubstringAfter) ws is = (refl, refl, (refl, refl, is))
callee_first (function.On on_text.Substring) ws is = (refl, refl, (refl, refl, is))
callee_first (function.On on_text.StringLength) ws is = (refl, refl, (refl, refl, is))
callee_first (function.On on_text.NormalizeSpace) ws is = (refl, refl, (refl, refl, is))
callee_first (function.On on_text.Translate) ws is = (refl, refl, (refl, refl, is))
callee_first function.Boolean ws is = (refl, refl, (refl, refl, is))
callee_first function.Not ws is = (refl, refl, (refl, refl, is))
callee_first function.True ws is = (refl, refl, (refl, refl, is))
callee_first function.False ws is = (refl, refl, (refl, refl, is))
callee_first function.Number ws is = (refl, refl, (refl, refl, is))
callee_first function.Sum ws is = (refl, refl, (refl, refl, is))
callee_first function.Floor ws is = (refl, refl, (refl, refl, is))
callee_first function.Ceiling ws is = (refl, refl, (refl, refl, is))
callee_first function.Round ws is = (refl, refl, (refl, refl, is))
callee_first function.Current ws is = (refl, refl, (refl, refl, is))
callee_first function.GenerateId ws is = (refl, refl, (refl, refl, is))
