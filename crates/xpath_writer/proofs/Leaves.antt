-- A leaf that can be written is read as itself.
use Rattle.std.proofs.Common.{◌≡◌, ◌<◌, ◌≤◌, ◌+◌, ◌==◌, ◌&&◌, ◌||◌, ℕ, suc, not, Bool, true, false, cond, nat_lt, IsTrue, List, [], ◌∷◌, ◌++◌, length, length-append, take, drop, Option, Some, None, inl, inr, sym, refl, ap, ◌∙◌, subst, append_assoc, append-nil, arith, encode_utf8_all, codes, nat_le}
use Rattle.std.specs.List.{AllByRecursion, position_or_len, list_any, list_all}
use Rattle.std.proofs.lemmas.Bool.Decides.{nat_tests}
use Rattle.std.proofs.Math.Seq.{drop-append_seam, take-append_seam, drop-append-add}
use Rattle.std.specs.Option.{option_map_or}
use Rattle.std.specs.Str.{chars}
use Rattle.std.specs.Str.Parse.{AllDigits, digits_value}
use Rattle.std.specs.Char.{digit_value}
use Rattle.std.specs.Fmt.{decimal}
use Rattle.std.proofs.lemmas.Fmt.{decimal_is_IsNumeral, length-decimal-le}
use Rattle.serna_kinds.specs.Names.{NameParts, Space, name_parts, id_of}
use Rattle.serna_kinds.specs.declared.cells.NameId.{NameId}
use Rattle.serna_kinds.specs.declared.expressions.NodeTest.{NodeTest}
use Rattle.serna_kinds.specs.declared.expressions.NodeTest.TheVariants as test
use Rattle.xpath_trees.specs.declared.expr.Expr.{Expr}
use Rattle.xpath_trees.specs.declared.expr.Expr.TheVariants as expr
use Rattle.xpath_tokens.specs.declared.symbol.Symbol.{Symbol}
use Rattle.xpath_tokens.specs.declared.symbol.Symbol.TheVariants as symbol
use Rattle.xpath_tokens.specs.declared.tokens.Kind.{Kind}
use Rattle.xpath_tokens.specs.declared.tokens.Kind.TheVariants as kind
use Rattle.xpath_tokens.specs.Spelling.{IsLocalName}
use Rattle.serna_kinds.specs.Blanks.{is_space}
use Rattle.serna_kinds.specs.Qualified.{is_digit, begins_name, continues_name, parted, uri_for, uri_or_none, attribute_name}
use Rattle.xpath_tokens.specs.Tokens.{qualified, name_length, begins_any, named, name_before, without_spaces, word, literal, pointed, wrong, number, ends_operand, front}
use Rattle.xpath_tokens.specs.Symbols.{uri_in, text_or_none, inside}
use Rattle.xpath_tokens.proofs.WordFronts.{run_stops, local_stops, some_local, colon_any, within_word, name_first, digit_first}
use Rattle.xpath_writer.specs.Writing.{Word, Written, spelled, qualified_text, quote_for, quoted, name_text, prefix_for, test_words, shown, begins_token, AreTokens, Lexes, IsReadAs, IsLeaf}
use Rattle.xpath_writer.specs.Writable.{HasPrefix, IsWritableName, IsWritableText, IsWritableUri, IsWritableTest, IsNodeType, IsWritable}
use Rattle.xpath_writer.proofs.Shown.{shown-Text, shown-Number, shown-Variable}

clash : true ≡ false → ⊥
clash h = cc

-- Names before a blank

blank_any : (l : List ℕ) → begins_any (32 ∷ l) ≡ false
blank_any [] = refl
blank_any (c ∷ l) = refl

-- a name without a colon, before a blank

plain_length : (s l : List ℕ) → IsLocalName s → name_length (s ++ 32 ∷ l) ≡ length s
plain_length s l is =
    let n = local_stops s 32 l is refl in
    ap (λ k. cond (nat_lt 0 k) (qualified k (drop k (s ++ 32 ∷ l))) 0) n
    ∙ ap (λ v. cond v (qualified (length s) (drop (length s) (s ++ 32 ∷ l))) 0) (some_local s is)
    ∙ ap (qualified (length s)) (drop-append_seam s (32 ∷ l))

plain_word : (s l : List ℕ) → IsLocalName s → word false (s ++ 32 ∷ l) ≡ (name_before (without_spaces (32 ∷ l)), length s)
plain_word s l is =
    let n = local_stops s 32 l is refl in
    let text = s ++ 32 ∷ l in
    ap (λ k. cond (begins_any (drop k text)) (kind.Within, k + 2) (named false (name_length text) text)) n
    ∙ ap (λ t. cond (begins_any t) (kind.Within, length s + 2) (named false (name_length text) text)) (drop-append_seam s (32 ∷ l))
    ∙ ap (λ v. cond v (kind.Within, length s + 2) (named false (name_length text) text)) (blank_any l)
    ∙ ap (λ k. named false k text) (plain_length s l is)
    ∙ ap (λ t. (name_before (without_spaces t), length s)) (drop-append_seam s (32 ∷ l))

-- a name with a prefix, before a blank

prefixed_length : (p s l : List ℕ) → IsLocalName p → IsLocalName s → name_length (p ++ (58 ∷ (s ++ 32 ∷ l))) ≡ length p + suc (length s)
prefixed_length p s l p_is s_is =
    let rest = s ++ 32 ∷ l in
    let n = local_stops p 58 rest p_is refl in
    let m = local_stops s 32 l s_is refl in
    ap (λ k. cond (nat_lt 0 k) (qualified k (drop k (p ++ (58 ∷ rest)))) 0) n
    ∙ ap (λ v. cond v (qualified (length p) (drop (length p) (p ++ (58 ∷ rest)))) 0) (some_local p p_is)
    ∙ ap (qualified (length p)) (drop-append_seam p (58 ∷ rest))
    ∙ ap (λ k. cond (nat_lt 0 k) (length p + suc k) (length p)) m
    ∙ ap (λ v. cond v (length p + suc (length s)) (length p)) (some_local s s_is)

prefixed_word : (p s l : List ℕ) → IsLocalName p → IsLocalName s
    → word false (p ++ (58 ∷ (s ++ 32 ∷ l))) ≡ (name_before (without_spaces (32 ∷ l)), length p + suc (length s))
prefixed_word p s l p_is s_is =
    let rest = s ++ 32 ∷ l in
    let text = p ++ (58 ∷ rest) in
    let n = local_stops p 58 rest p_is refl in
    let behind : drop (length p + suc (length s)) text ≡ 32 ∷ l = drop-append-add p (58 ∷ rest) (suc (length s)) ∙ drop-append_seam s (32 ∷ l) in
    ap (λ k. cond (begins_any (drop k text)) (kind.Within, k + 2) (named false (name_length text) text)) n
    ∙ ap (λ t. cond (begins_any t) (kind.Within, length p + 2) (named false (name_length text) text)) (drop-append_seam p (58 ∷ rest))
    ∙ ap (λ v. cond v (kind.Within, length p + 2) (named false (name_length text) text)) (colon_any s (32 ∷ l) s_is)
    ∙ ap (λ k. named false k text) (prefixed_length p s l p_is s_is)
    ∙ ap (λ t. (name_before (without_spaces t), length p + suc (length s))) behind

no_space : (b : ℕ) → begins_name b ≡ true → is_space b ≡ false
no_space b h = grind (arith, nat_tests)

-- The parts of a name as it is written

no_colon : (b : ℕ) → continues_name b ≡ true → (b == 58) ≡ false
no_colon b h = grind (arith, nat_tests)

begins_continues : (b : ℕ) → begins_name b ≡ true → continues_name b ≡ true
begins_continues b h = grind (arith, nat_tests)

all_continue : (s : List ℕ) → IsLocalName s → AllByRecursion (λ b. IsTrue (continues_name b)) s
all_continue [] is = absurd is
all_continue (b ∷ bs) is = (begins_continues b is.0, is.1)

colon_behind : (s l : List ℕ) → AllByRecursion (λ b. IsTrue (continues_name b)) s → position_or_len (λ b. b == 58) (s ++ 58 ∷ l) ≡ length s
colon_behind [] l all = refl
colon_behind (b ∷ bs) l all =
    let more : 1 + length bs ≡ suc (length bs) = omega arith in
    ap (λ v. cond (not v) (1 + position_or_len (λ c. c == 58) (bs ++ 58 ∷ l)) 0) (no_colon b all.0) ∙ ap (λ n. 1 + n) (colon_behind bs l all.1) ∙ more

no_colon_in : (s : List ℕ) → AllByRecursion (λ b. IsTrue (continues_name b)) s → position_or_len (λ b. b == 58) s ≡ length s
no_colon_in [] all = refl
no_colon_in (b ∷ bs) all =
    let more : 1 + length bs ≡ suc (length bs) = omega arith in
    ap (λ v. cond (not v) (1 + position_or_len (λ c. c == 58) bs) 0) (no_colon b all.0) ∙ ap (λ n. 1 + n) (no_colon_in bs all.1) ∙ more

less_than : (n m : ℕ) → n < m → nat_lt n m ≡ true
less_than n m h = grind (arith, nat_tests)

not_less_than : (n : ℕ) → nat_lt n n ≡ false
not_less_than n = grind (arith, nat_tests)

-- the parts of a name from where it is cut
abbrev pub prefix_from : Option (List ℕ × List ℕ) → List ℕ
prefix_from cut = elim cut [ None ↦ [] | Some parts ↦ parts.0 ]

abbrev pub local_from : List ℕ → Option (List ℕ × List ℕ) → List ℕ
local_from name cut = elim cut [ None ↦ name | Some parts ↦ parts.1 ]

pub parted_plain : (s : List ℕ) → IsLocalName s → parted 58 s ≡ None
parted_plain s is =
    ap (λ n. cond (nat_lt n (length s)) (Some (take n s, drop (n + 1) s)) None) (no_colon_in s (all_continue s is))
    ∙ ap (λ v. cond v (Some (take (length s) s, drop (length s + 1) s)) None) (not_less_than (length s))

pub parted_prefixed : (p s : List ℕ) → IsLocalName p → parted 58 (p ++ 58 ∷ s) ≡ Some (p, s)
parted_prefixed p s is =
    let text = p ++ 58 ∷ s in
    let size : length p < length text = omega (arith, length-append p (58 ∷ s)) in
    ap (λ n. cond (nat_lt n (length text)) (Some (take n text, drop (n + 1) text)) None) (colon_behind p s (all_continue p is))
    ∙ ap (λ v. cond v (Some (take (length p) text, drop (length p + 1) text)) None) (less_than (length p) (length text) size)
    ∙ ap (λ a. Some (a, drop (length p + 1) text)) (take-append_seam p (58 ∷ s))
    ∙ ap (λ b. Some (p, b)) (drop-append-add p (58 ∷ s) 1)

abbrev pub spelling : NameParts → List ℕ
spelling parts = qualified_text parts.prefix parts.local

-- how the name of a part reads back
pub record Reads (spaces : List Space) (parts : NameParts) (s : List ℕ) : Type 0 where
  pub is_name : attribute_name spaces s ≡ parts
  pub length_is : (l : List ℕ) → name_length (s ++ 32 ∷ l) ≡ length s
  pub word_is : (l : List ℕ) → word false (s ++ 32 ∷ l) ≡ (name_before (without_spaces (32 ∷ l)), length s)
  pub front_is : (rest : List ℕ) → front false (s ++ rest) ≡ word false (s ++ rest)
  pub begins : IsTrue (begins_token s)
  pub some : nat_lt 0 (length s) ≡ true

begins_local : (s rest : List ℕ) → IsLocalName s → IsTrue (begins_token (s ++ rest))
begins_local [] rest is = absurd is
begins_local (b ∷ bs) rest is = ap not (no_space b is.0)

longer : (p s : List ℕ) → IsLocalName p → nat_lt 0 (length (p ++ s)) ≡ true
longer [] s is = absurd is
longer (b ∷ bs) s is = go (length (bs ++ s))
  where
    go : (n : ℕ) → nat_lt 0 (suc n) ≡ true
    go n = grind (arith, nat_tests)

reads_plain : (spaces : List Space) (s : List ℕ) → IsLocalName s → Reads spaces (name_parts [] s []) s
reads_plain spaces s is = record {
  is_name = ap (λ o. name_parts (uri_in spaces (prefix_from o)) (local_from s o) (prefix_from o)) (parted_plain s is);
  length_is = λ l. plain_length s l is;
  word_is = λ l. plain_word s l is;
  front_is = λ rest. name_first false s rest is;
  begins = subst (λ t. IsTrue (begins_token t)) (append-nil s) (begins_local s [] is);
  some = some_local s is;
}

reads_prefixed : (spaces : List Space) (p s : List ℕ) → IsLocalName p → IsLocalName s → Reads spaces (name_parts (uri_in spaces p) s p) (p ++ 58 ∷ s)
reads_prefixed spaces p s p_is s_is = record {
  is_name = ap (λ o. name_parts (uri_in spaces (prefix_from o)) (local_from (p ++ 58 ∷ s) o) (prefix_from o)) (parted_prefixed p s p_is);
  length_is = λ l. ap name_length (append_assoc p (58 ∷ s) (32 ∷ l)) ∙ prefixed_length p s l p_is s_is ∙ sym (length-append p (58 ∷ s));
  word_is = λ l.
      ap (word false) (append_assoc p (58 ∷ s) (32 ∷ l)) ∙ prefixed_word p s l p_is s_is ∙ ap (λ n. (name_before (without_spaces (32 ∷ l)), n)) (sym (length-append p (58 ∷ s)));
  front_is = λ rest. ap (front false) (append_assoc p (58 ∷ s) rest) ∙ name_first false p ((58 ∷ s) ++ rest) p_is ∙ ap (word false) (sym (append_assoc p (58 ∷ s) rest));
  begins = begins_local p (58 ∷ s) p_is;
  some = longer p (58 ∷ s) p_is;
}

bound_uri : (spaces : List Space) (p uri : List ℕ) → IsLocalName p → uri_for spaces p ≡ Some uri → uri_in spaces p ≡ uri
bound_uri spaces [] uri is e = absurd is
bound_uri spaces (c ∷ cs) uri is e = ap uri_or_none e

qualified_is : (p s : List ℕ) → IsLocalName p → qualified_text p s ≡ p ++ 58 ∷ s
qualified_is [] s is = absurd is
qualified_is (c ∷ cs) s is = refl

pub reads : (spaces : List Space) (parts : NameParts) → IsLocalName parts.local → HasPrefix spaces parts → Reads spaces parts (spelling parts)
reads spaces parts local (inl is) =
    let same : name_parts [] parts.local [] ≡ parts = ap (λ u. name_parts u parts.local []) (sym is.1) ∙ ap (λ p. name_parts parts.uri parts.local p) (sym is.0) in
    let text : parts.local ≡ spelling parts = ap (λ p. qualified_text p parts.local) (sym is.0) in
    subst (λ (x : NameParts). Reads spaces x (spelling parts)) same (subst (λ t. Reads spaces (name_parts [] parts.local []) t) text (reads_plain spaces parts.local local))
reads spaces parts local (inr is) =
    subst (λ u. Reads spaces (name_parts u parts.local parts.prefix) (spelling parts)) (bound_uri spaces parts.prefix parts.uri is.0 is.1)
    (subst (λ t. Reads spaces (name_parts (uri_in spaces parts.prefix) parts.local parts.prefix) t) (sym (qualified_is parts.prefix parts.local is.0)) (reads_prefixed spaces parts.prefix parts.local is.0 local))

-- Leaves

text-regroup : (s l : List ℕ) → (s ++ 32 ∷ []) ++ l ≡ s ++ 32 ∷ l
text-regroup s l = append_assoc s (32 ∷ []) l

module _ (spaces : List Space) (names : List NameParts) where
  -- one word that is a token behind no operand, before whatever may follow one
  one_word : (k : Kind) (s : List ℕ) → ends_operand k ≡ true → IsTrue (begins_token s)
      → ((l : List ℕ) → name_before (without_spaces (32 ∷ l)) ≡ kind.Name → front false (s ++ 32 ∷ l) ≡ (k, length s)) → Lexes true (let w : Word = (k, s) in w ∷ [])
  one_word k s ends begins first ws follow =
      (ap (front false) (text-regroup s (spelled ws)) ∙ first (spelled ws) follow.no_callee, begins, subst (λ v. AreTokens v ws) (sym ends) follow.behind_operand)

  pub name_text-is : (id : NameId) (is : IsWritableName spaces names id) → name_text names id ≡ spelling is.parts
  name_text-is id is = ap (λ o. option_map_or (λ (name : NameParts). qualified_text name.prefix name.local) o []) is.stored

  named_leaf : (id : NameId) → IsWritableName spaces names id → IsReadAs spaces names (test_words spaces names (test.Named id)) (symbol.Test (test.Named id) ∷ [])
  named_leaf id is =
      let r = reads spaces is.parts is.local_is is.prefix_is in
      let s = spelling is.parts in
      subst (λ t. IsReadAs spaces names (let w : Word = (kind.Name, t) in w ∷ []) (symbol.Test (test.Named id) ∷ [])) (sym (name_text-is id is)) (
        ap (λ (n : NameId). symbol.Test (test.Named n) ∷ []) (ap (id_of names) r.is_name ∙ is.numbered),
        one_word kind.Name s refl r.begins (λ l e. r.front_is (32 ∷ l) ∙ r.word_is l ∙ ap (λ k. (k, length s)) e),
      )

  variable_leaf : (id : NameId) → IsWritableName spaces names id → IsReadAs spaces names (let w : Word = (kind.Variable, 36 ∷ name_text names id) in w ∷ []) (symbol.Atom (expr.Variable id) ∷ [])
  variable_leaf id is =
      let r = reads spaces is.parts is.local_is is.prefix_is in
      let s = spelling is.parts in
      subst (λ t. IsReadAs spaces names (let w : Word = (kind.Variable, 36 ∷ t) in w ∷ []) (symbol.Atom (expr.Variable id) ∷ [])) (sym (name_text-is id is)) (
        ap (λ (n : NameId). symbol.Atom (expr.Variable n) ∷ []) (ap (id_of names) r.is_name ∙ is.numbered),
        one_word kind.Variable (36 ∷ s) refl refl (λ l e.
            ap (λ n. cond (nat_lt 0 n) (kind.Variable, suc n) (kind.Wrong, suc (length (s ++ 32 ∷ l)))) (r.length_is l) ∙ ap (λ v. cond v (kind.Variable, suc (length s)) (kind.Wrong, suc (length (s ++ 32 ∷ l)))) r.some),
      )

  within_leaf : (uri : List ℕ) → IsWritableUri spaces uri → IsReadAs spaces names (test_words spaces names (test.Within uri)) (symbol.Test (test.Within uri) ∷ [])
  within_leaf uri is =
      let p = prefix_for spaces (encode_utf8_all uri) in (
        ap (λ o. symbol.Test (test.Within (chars (uri_in spaces (prefix_from o)))) ∷ []) (parted_prefixed p (42 ∷ []) is.0) ∙ ap (λ u. symbol.Test (test.Within u) ∷ []) is.1,
        one_word kind.Within (p ++ codes ":*") refl (begins_local p (codes ":*") is.0) (λ l e.
            ap (front false) (append_assoc p (codes ":*") (32 ∷ l)) ∙ name_first false p (58 ∷ 42 ∷ 32 ∷ l) is.0 ∙ within_word false p (32 ∷ l) is.0 ∙ ap (λ n. (kind.Within, n)) (sym (length-append p (codes ":*")))),
      )

  any_node_leaf : (t : NodeTest) → IsNodeType t → IsReadAs spaces names (test_words spaces names t) (symbol.NodeType t ∷ symbol.Open ∷ symbol.Close ∷ [])
  any_node_leaf test.AnyNode is = (refl, λ ws follow. (refl, refl, (refl, refl, (refl, refl, follow.behind_operand))))
  any_node_leaf test.AnyText is = (refl, λ ws follow. (refl, refl, (refl, refl, (refl, refl, follow.behind_operand))))
  any_node_leaf test.AnyComment is = (refl, λ ws follow. (refl, refl, (refl, refl, (refl, refl, follow.behind_operand))))
  any_node_leaf test.AnyName is = absurd is
  any_node_leaf (test.Within uri) is = absurd is
  any_node_leaf (test.Named id) is = absurd is

  test_leaf : (t : NodeTest) → IsWritableTest spaces names t → IsReadAs spaces names (test_words spaces names t) (symbol.Test t ∷ [])
  test_leaf test.AnyName is = (refl, λ ws follow. (refl, refl, follow.behind_operand))
  test_leaf (test.Within uri) is = within_leaf uri is
  test_leaf (test.Named id) is = named_leaf id is
  test_leaf test.AnyNode is = absurd is
  test_leaf test.AnyText is = absurd is
  test_leaf test.AnyComment is = absurd is

  -- Literals

  quote_behind : (q : ℕ) (text l : List ℕ) → list_any (λ b. b == q) text ≡ false → position_or_len (λ b. b == q) (text ++ q ∷ l) ≡ length text
  quote_behind q [] l none = ap (λ v. cond (not v) (1 + position_or_len (λ b. b == q) l) 0) (same q)
    where
      same : (n : ℕ) → (n == n) ≡ true
      same n = grind (arith, nat_tests)
  quote_behind q (b ∷ bs) l none = go (b == q) refl (quote_behind q bs l)
    where
      more : 1 + length bs ≡ suc (length bs)
      more = omega arith

      go : (v : Bool) → (b == q) ≡ v → (list_any (λ c. c == q) bs ≡ false → position_or_len (λ c. c == q) (bs ++ q ∷ l) ≡ length bs) → position_or_len (λ c. c == q) ((b ∷ bs) ++ q ∷ l) ≡ suc (length bs)
      go true e ih = let bad : true ≡ false = ap (λ v. v || list_any (λ c. c == q) bs) (sym e) ∙ none in absurd (clash bad)
      go false e ih =
          ap (λ v. cond (not v) (1 + position_or_len (λ c. c == q) (bs ++ q ∷ l)) 0) e ∙ ap (λ n. 1 + n) (ih (ap (λ v. v || list_any (λ c. c == q) bs) (sym e) ∙ none)) ∙ more

  literal_front : (q : ℕ) (text l : List ℕ) → list_any (λ b. b == q) text ≡ false → literal q ((text ++ q ∷ []) ++ 32 ∷ l) ≡ (kind.Literal, length text + 2)
  literal_front q text l none =
      let rest = text ++ q ∷ (32 ∷ l) in
      let size : length text < length rest = omega (arith, length-append text (q ∷ (32 ∷ l))) in
      ap (literal q) (append_assoc text (q ∷ []) (32 ∷ l))
      ∙ ap (λ n. cond (nat_lt n (length rest)) (kind.Literal, n + 2) (kind.Wrong, suc (length rest))) (quote_behind q text (32 ∷ l) none)
      ∙ ap (λ v. cond v (kind.Literal, length text + 2) (kind.Wrong, suc (length rest))) (less_than (length text) (length rest) size)

  pub parted_quote : (q : ℕ) (text : List ℕ) → list_any (λ b. b == q) text ≡ false → text_or_none (parted q (text ++ q ∷ [])) ≡ text
  parted_quote q text none =
      let whole = text ++ q ∷ [] in
      let size : length text < length whole = omega (arith, length-append text (q ∷ [])) in
      ap (λ n. text_or_none (cond (nat_lt n (length whole)) (Some (take n whole, drop (n + 1) whole)) None)) (quote_behind q text [] none)
      ∙ ap (λ v. text_or_none (cond v (Some (take (length text) whole, drop (length text + 1) whole)) None)) (less_than (length text) (length whole) size)
      ∙ take-append_seam text (q ∷ [])

  literal_size : (q : ℕ) (text : List ℕ) → length text + 2 ≡ length (q ∷ (text ++ q ∷ []))
  literal_size q text = omega (arith, length-append text (q ∷ []))

  literal_leaf : (q : ℕ) (text : List ℕ) → list_any (λ b. b == q) text ≡ false → is_space q ≡ false → ((rest : List ℕ) → front false (q ∷ rest) ≡ literal q rest) → ((rest : List ℕ) → inside (q ∷ rest) ≡ text_or_none (parted q rest))
      → IsReadAs spaces names (let w : Word = (kind.Literal, q ∷ (text ++ q ∷ [])) in w ∷ []) (symbol.Atom (expr.Text (chars text)) ∷ [])
  literal_leaf q text none no_blank first within = (
    ap (λ t. symbol.Atom (expr.Text (chars t)) ∷ []) (within (text ++ q ∷ []) ∙ parted_quote q text none),
    one_word kind.Literal (q ∷ (text ++ q ∷ [])) refl (ap not no_blank) (λ l e. first ((text ++ q ∷ []) ++ 32 ∷ l) ∙ literal_front q text l none ∙ ap (λ n. (kind.Literal, n)) (literal_size q text)),
  )

  quoted_leaf : (text : List ℕ) → list_any (λ b. b == quote_for text) text ≡ false → IsReadAs spaces names (let w : Word = (kind.Literal, quoted text) in w ∷ []) (symbol.Atom (expr.Text (chars text)) ∷ [])
  quoted_leaf text none = go (list_any (λ b. b == 34) text) none
    where
      go : (v : Bool) → list_any (λ b. b == cond v 39 34) text ≡ false
          → IsReadAs spaces names (let w : Word = (kind.Literal, cond v 39 34 ∷ (text ++ cond v 39 34 ∷ [])) in w ∷ []) (symbol.Atom (expr.Text (chars text)) ∷ [])
      go true h = literal_leaf 39 text h refl (λ rest. refl) (λ rest. refl)
      go false h = literal_leaf 34 text h refl (λ rest. refl) (λ rest. refl)

  -- Numbers

  digit_is : (b : ℕ) → digit_value b < 10 → is_digit b ≡ true
  digit_is b h = grind (arith, nat_tests)

  digits_are : (ds : List ℕ) → AllDigits 10 ds → AllByRecursion (λ b. IsTrue (is_digit b)) ds
  digits_are [] all = tt
  digits_are (d ∷ ds) all = (digit_is d all.0, digits_are ds all.1)

  all_digits : (ds : List ℕ) → AllByRecursion (λ b. IsTrue (is_digit b)) ds → list_all is_digit ds ≡ true
  all_digits [] all = refl
  all_digits (d ∷ ds) all = ap (λ v. v && list_all is_digit ds) all.0 ∙ all_digits ds all.1

  digit_no_space : (b : ℕ) → is_digit b ≡ true → is_space b ≡ false
  digit_no_space b h = grind (arith, nat_tests)

  at_most_15 : (n : ℕ) → n ≤ 15 → nat_lt 15 n ≡ false
  at_most_15 n h = grind (arith, nat_tests)

  within_15 : (n : ℕ) → n ≤ 15 → nat_le n 15 ≡ true
  within_15 n h = grind (arith, nat_tests)

  number_front : (ds l : List ℕ) → AllByRecursion (λ b. IsTrue (is_digit b)) ds → length ds ≤ 15 → number (ds ++ 32 ∷ l) ≡ (kind.Number, length ds)
  number_front ds l all few =
      let text = ds ++ 32 ∷ l in
      ap (λ n. pointed n (drop n text) text) (run_stops is_digit ds 32 l all refl)
      ∙ ap (λ t. pointed (length ds) t text) (drop-append_seam ds (32 ∷ l))
      ∙ ap (λ v. cond v (wrong text) (kind.Number, length ds)) (at_most_15 (length ds) few)

  digits_first : (ds l : List ℕ) → 0 < length ds → AllByRecursion (λ b. IsTrue (is_digit b)) ds → length ds ≤ 15 → front false (ds ++ 32 ∷ l) ≡ (kind.Number, length ds)
  digits_first [] l some all few = absurd (omega arith)
  digits_first (b ∷ bs) l some all few = digit_first false b (bs ++ 32 ∷ l) all.0 ∙ number_front (b ∷ bs) l all few

  begins_digits : (ds : List ℕ) → 0 < length ds → AllByRecursion (λ b. IsTrue (is_digit b)) ds → IsTrue (begins_token ds)
  begins_digits [] some all = absurd (omega arith)
  begins_digits (b ∷ bs) some all = ap not (digit_no_space b all.0)

  number_leaf : (n : ℕ) → n < 1000000000000000 → IsReadAs spaces names (let w : Word = (kind.Number, decimal n) in w ∷ []) (symbol.Atom (expr.Number n) ∷ [])
  number_leaf n low =
      let numeral = decimal_is_IsNumeral n (omega arith) in
      let few = length-decimal-le 15 n (omega arith) low (omega arith) in
      let all = digits_are (decimal n) numeral.0.1 in (
        ap (λ v. symbol.Atom (expr.Number (cond (v && nat_le (length (decimal n)) 15) (digits_value 10 (decimal n)) 0)) ∷ []) (all_digits (decimal n) all)
            ∙ ap (λ v. symbol.Atom (expr.Number (cond v (digits_value 10 (decimal n)) 0)) ∷ []) (within_15 (length (decimal n)) few)
            ∙ ap (λ m. symbol.Atom (expr.Number m) ∷ []) numeral.1,
        one_word kind.Number (decimal n) refl (begins_digits (decimal n) numeral.0.0 all) (λ l e. digits_first (decimal n) l numeral.0.0 all few),
      )

  -- All leaves

  -- an atom that is written as one word
  atom_leaf : (e : Expr) (w : Written) → shown spaces names e ≡ w → w.rank ≡ 11 → ((before : Bool) → IsReadAs spaces names (w.words before) (symbol.Atom e ∷ [])) → IsLeaf spaces names (symbol.Atom e)
  atom_leaf e w shows ranks read = (ap (λ (x : Written). x.rank) shows ∙ ranks, λ before. subst (λ (x : Written). IsReadAs spaces names (x.words before) (symbol.Atom e ∷ [])) (sym shows) (read before))

  variable_atom : (id : NameId) → IsWritableName spaces names id → IsLeaf spaces names (symbol.Atom (expr.Variable id))
  variable_atom id is = atom_leaf (expr.Variable id) _ (shown-Variable spaces names id) refl (λ before. variable_leaf id is)

  text_atom : (text : List ℕ) → IsWritableText text → IsLeaf spaces names (symbol.Atom (expr.Text text))
  text_atom text is =
      atom_leaf (expr.Text text) _ (shown-Text spaces names text) refl (λ before.
      subst (λ t. IsReadAs spaces names (let w : Word = (kind.Literal, quoted (encode_utf8_all text)) in w ∷ []) (symbol.Atom (expr.Text t) ∷ [])) is.0 (quoted_leaf (encode_utf8_all text) is.1))

  number_atom : (n : ℕ) → n < 1000000000000000 → IsLeaf spaces names (symbol.Atom (expr.Number n))
  number_atom n low = atom_leaf (expr.Number n) _ (shown-Number spaces names n) refl (λ before. number_leaf n low)

  pub writable_leaf : (s : Symbol) → IsWritable spaces names s → IsLeaf spaces names s
  writable_leaf (symbol.Atom e) (inl is) = subst (λ (x : Expr). IsLeaf spaces names (symbol.Atom x)) (sym is.1) (variable_atom is.0 is.2)
  writable_leaf (symbol.Atom e) (inr (inl is)) = subst (λ (x : Expr). IsLeaf spaces names (symbol.Atom x)) (sym is.1) (text_atom is.0 is.2)
  writable_leaf (symbol.Atom e) (inr (inr is)) = subst (λ (x : Expr). IsLeaf spaces names (symbol.Atom x)) (sym is.1) (number_atom is.0 is.2)
  writable_leaf (symbol.Test t) is = test_leaf t is
  writable_leaf (symbol.NodeType t) is = any_node_leaf t is
  writable_leaf s is = tt

  pub all_leaves : (tokens : List Symbol) → AllByRecursion (IsWritable spaces names) tokens → AllByRecursion (IsLeaf spaces names) tokens
  all_leaves [] all = tt
  all_leaves (s ∷ tokens) all = (writable_leaf s all.0, all_leaves tokens all.1)
