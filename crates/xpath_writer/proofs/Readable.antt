-- What stands for a leaf in a text that was read can be written.
use Rattle.std.proofs.Common.{◌≡◌, ◌<◌, ◌==◌, ◌&&◌, ◌||◌, ◌⊎◌, ℕ, zero, suc, Bool, true, false, cond, nat_lt, IsTrue, List, [], ◌∷◌, ◌++◌, length, length-append, get_or, Option, Some, None, is_some, option_map, inl, inr, sym, refl, ap, ◌∙◌, subst, arith, encode_utf8_all, codes}
use Rattle.std.specs.List.{AllByRecursion, list_any, list_all}
use Rattle.std.specs.Map.{lookup}
use Rattle.std.specs.Str.{bytes_eq, chars, IsUtf8, IsCharBoundary}
use Rattle.std.proofs.lemmas.Bool.Decides.{nat_tests}
use Rattle.std.proofs.lemmas.Str.{IsUtf8-from_ascii, encodes-chars, IsUtf8-drop, IsUtf8-take, IsCharBoundary-after_ascii}
use Rattle.std.proofs.Math.Seq.{take-append_seam}
use Rattle.serna_kinds.specs.Names.{NameParts, Space, id_of, uri_of}
use Rattle.serna_kinds.specs.declared.expressions.NodeTest.{NodeTest}
use Rattle.serna_kinds.specs.declared.expressions.NodeTest.TheVariants as test
use Rattle.serna_kinds.specs.declared.expressions.Axis.{Axis}
use Rattle.xpath_tokens.specs.declared.tokens.Token.{Token}
use Rattle.xpath_tokens.specs.declared.tokens.Kind.{Kind}
use Rattle.xpath_tokens.specs.declared.tokens.Kind.TheVariants as kind
use Rattle.xpath_tokens.specs.Spelling.{IsLocalName, IsName, IsLiteral, IsSpelled}
use Rattle.xpath_tokens.specs.declared.faults.ExprRule.TheVariants as rule
use Rattle.serna_kinds.specs.Qualified.{continues_name, begins_name, is_local_name, is_name, prefix_of, local_of, parted, uri_for, attribute_uri, attribute_name, uri_or_none, xml_prefix, xml_uri}
use Rattle.xpath_tokens.specs.Symbols.{uri_in, inside, text_or_none, without_dollar, number_value, callee_or, node_types, axis_or_wrong, axes, symbol_of}
use Rattle.xpath_tokens.specs.declared.faults.ReadAs.TheVariants as how
use Rattle.xpath_tokens.specs.Faults.{prefix_fault, fault_at}
use Rattle.xpath_writer.specs.Writing.{quote_for, stands_for, declares, prefix_among, prefix_for}
use Rattle.xpath_tokens.proofs.Comparing.{same_number, equal_number}
use Rattle.xpath_tokens.proofs.WordLemmas.{number_low}
use Rattle.xpath_writer.proofs.Leaves.{prefix_from, local_from, parted_quote, parted_plain, parted_prefixed}
use Rattle.xpath_writer.specs.Writable.{HasPrefix, IsWritableName, IsWritableText, IsWritableUri, IsWritable, IsNodeType}
use Rattle.xpath_tokens.specs.Named.{IsStored, HasName}

-- Literals

-- what stands before the last byte of a text, where that one is ASCII
before_last : (text : List ℕ) (q : ℕ) → q < 128 → IsUtf8 (text ++ q ∷ []) → IsUtf8 text
before_last text q low is = subst IsUtf8 (take-append_seam text (q ∷ [])) (IsUtf8-take (text ++ q ∷ []) (length text) is boundary)
  where
    last_byte : (t : List ℕ) → get_or (t ++ q ∷ []) (length t) 0 ≡ q
    last_byte [] = refl
    last_byte (b ∷ bs) = last_byte bs

    boundary : IsCharBoundary (text ++ q ∷ []) (length text)
    boundary = let size = length-append text (q ∷ []) in let byte = last_byte text in (omega arith, λ lt ge. absurd (omega arith))

within_quotes : (text : List ℕ) (q : ℕ) → q < 128 → IsUtf8 (q ∷ (text ++ q ∷ [])) → IsUtf8 text
within_quotes text q low is =
    before_last text q low (IsUtf8-drop (q ∷ (text ++ q ∷ [])) 1 is (IsCharBoundary-after_ascii (q ∷ (text ++ q ∷ [])) 0 is (omega arith) low))

clash : true ≡ false → ⊥
clash h = cc

no_text : {X : Type 0} (x : X) → Some x ≡ None → ⊥
no_text x e = cc

both : (a b : Bool) → (a && b) ≡ true → (a ≡ true) × (b ≡ true)
both true b e = (refl, e)
both false b e = cc

none_of : (q : ℕ) (text : List ℕ) → AllByRecursion (λ b. (b == q) ≡ false) text → list_any (λ b. b == q) text ≡ false
none_of q [] all = refl
none_of q (b ∷ bs) all = ap (λ v. v || list_any (λ c. c == q) bs) all.0 ∙ none_of q bs all.1

-- a text that lacks this quote lacks the one that is chosen for it
quote_lacks : (q : ℕ) (text : List ℕ) → (q ≡ 34) ⊎ (q ≡ 39) → list_any (λ b. b == q) text ≡ false → list_any (λ b. b == quote_for text) text ≡ false
quote_lacks q text is none = go (list_any (λ b. b == 34) text) refl
  where
    go : (v : Bool) → list_any (λ b. b == 34) text ≡ v → list_any (λ b. b == cond v 39 34) text ≡ false
    go false e = e
    go true e =
        elim is [
          | inl h ↦ absurd (clash (sym e ∙ ap (λ (k : ℕ). list_any (λ b. b == k) text) (sym h) ∙ none))
          | inr h ↦ ap (λ (k : ℕ). list_any (λ b. b == k) text) (sym h) ∙ none
        ]

parted_at : (q : ℕ) (text : List ℕ) → list_any (λ b. b == q) text ≡ false → text_or_none (parted q (text ++ q ∷ [])) ≡ text
parted_at q text none = parted_quote [] [] q text none

inside_is : (q : ℕ) (text : List ℕ) → (q ≡ 34) ⊎ (q ≡ 39) → list_any (λ b. b == q) text ≡ false → inside (q ∷ (text ++ q ∷ [])) ≡ text
inside_is q text (inl h) none =
    ap (λ (k : ℕ). inside (k ∷ (text ++ k ∷ []))) h ∙ parted_at 34 text (ap (λ (k : ℕ). list_any (λ b. b == k) text) (sym h) ∙ none)
inside_is q text (inr h) none =
    ap (λ (k : ℕ). inside (k ∷ (text ++ k ∷ []))) h ∙ parted_at 39 text (ap (λ (k : ℕ). list_any (λ b. b == k) text) (sym h) ∙ none)

low_quote : (q : ℕ) → (q ≡ 34) ⊎ (q ≡ 39) → q < 128
low_quote q (inl h) = omega arith
low_quote q (inr h) = omega arith

literal_text : (s : List ℕ) → IsLiteral s → IsUtf8 s → IsWritableText (chars (inside s))
literal_text s is utf8 =
    let none = none_of is.quote is.text is.text_is in
    let own : IsUtf8 (is.quote ∷ (is.text ++ is.quote ∷ [])) = subst IsUtf8 is.written utf8 in
    let text_utf8 = within_quotes is.text is.quote (low_quote is.quote is.quote_is) own in
    let same : inside s ≡ is.text = ap inside is.written ∙ inside_is is.quote is.text is.quote_is none in
    let back : encode_utf8_all (chars is.text) ≡ is.text = encodes-chars is.text text_utf8 in
    subst (λ t. IsWritableText (chars t)) (sym same) (ap chars back, subst (λ t. list_any (λ b. b == quote_for t) t ≡ false) (sym back) (quote_lacks is.quote is.text is.quote_is none))

-- Names

bound : {X : Type 0} (x : X) (spaces : List Space) (p : List ℕ) → IsLocalName p → cond (is_some (attribute_uri spaces p)) None (Some x) ≡ None → uri_for spaces p ≡ Some (uri_in spaces p)
bound x spaces [] is e = absurd is
bound x spaces (c ∷ cs) is e = go (uri_for spaces (c ∷ cs)) e
  where
    go : (o : Option (List ℕ)) → cond (is_some o) None (Some x) ≡ None → o ≡ Some (uri_or_none o)
    go None h = absurd (no_text x h)
    go (Some u) h = refl

name_parts_are : (spaces : List Space) (s : List ℕ) → IsName s → prefix_fault spaces s ≡ None → IsLocalName (local_of s) × HasPrefix spaces (attribute_name spaces s)
name_parts_are spaces s (inl is) e =
    let none = parted_plain s is in
    let p : prefix_of s ≡ [] = ap prefix_from none in
    let l : local_of s ≡ s = ap (local_from s) none in
    (subst IsLocalName (sym l) is, inl (p, ap (uri_in spaces) p))
name_parts_are spaces s (inr (prefix, local, prefix_is, local_is, whole)) e =
    let parts : parted 58 s ≡ Some (prefix, local) = ap (parted 58) whole ∙ parted_prefixed prefix local prefix_is in
    let p : prefix_of s ≡ prefix = ap prefix_from parts in
    let l : local_of s ≡ local = ap (local_from s) parts in
    let p_is : IsLocalName (prefix_of s) = subst IsLocalName (sym p) prefix_is in
    (subst IsLocalName (sym l) local_is, inr (p_is, bound rule.UnboundPrefix spaces (prefix_of s) p_is e))

-- Prefixes of a URI

all_pass : (p : ℕ → Bool) (xs : List ℕ) → AllByRecursion (λ b. IsTrue (p b)) xs → list_all p xs ≡ true
all_pass p [] all = refl
all_pass p (x ∷ xs) all = ap (λ v. v && list_all p xs) all.0 ∙ all_pass p xs all.1

pass_all : (p : ℕ → Bool) (xs : List ℕ) → list_all p xs ≡ true → AllByRecursion (λ b. IsTrue (p b)) xs
pass_all p [] e = tt
pass_all p (x ∷ xs) e = let parts = both (p x) (list_all p xs) e in (parts.0, pass_all p xs parts.1)

local_passes : (s : List ℕ) → IsLocalName s → is_local_name s ≡ true
local_passes [] is = absurd is
local_passes (b ∷ bs) is = ap (λ v. v && list_all continues_name bs) is.0 ∙ all_pass continues_name bs is.1

passes_local : (s : List ℕ) → is_local_name s ≡ true → IsLocalName s
passes_local [] e = absurd (clash (sym e))
passes_local (b ∷ bs) e = let parts = both (begins_name b) (list_all continues_name bs) e in (parts.0, pass_all continues_name bs parts.1)

-- a name without a colon is one that is not cut at a colon
module _ {X : Type 0} (f : X → List ℕ × List ℕ) (r : Option X) (s : List ℕ) (cut : option_map f r ≡ parted 58 s) where
  pub name_uncut : r ≡ None → is_name s ≡ is_local_name s
  name_uncut none =
      ap (λ (o : Option (List ℕ × List ℕ)). elim o [ None ↦ is_local_name s | Some parts ↦ is_local_name parts.0 && is_local_name parts.1 ]) (sym cut ∙ ap (option_map f) none)

  pub cut_none : (x : X) → r ≡ Some x → is_local_name s ≡ false
  cut_none x some = go (is_local_name s) refl
    where
      go : (v : Bool) → is_local_name s ≡ v → v ≡ false
      go true h =
          absurd (clash (sym (ap (λ (o : Option X). is_some (option_map f o)) some) ∙ ap (λ (o : Option (List ℕ × List ℕ)). is_some o) (cut ∙ parted_plain s (passes_local s h))))
      go false h = refl

pub same_bytes : (a : List ℕ) → bytes_eq a a ≡ true
same_bytes [] = refl
same_bytes (b ∷ bs) = ap (λ v. v && bytes_eq bs bs) (same_number b) ∙ same_bytes bs

equal_bytes : (a b : List ℕ) → bytes_eq a b ≡ true → a ≡ b
equal_bytes [] [] e = refl
equal_bytes [] (y ∷ ys) e = cc
equal_bytes (x ∷ xs) [] e = cc
equal_bytes (x ∷ xs) (y ∷ ys) e =
    let parts = both (x == y) (bytes_eq xs ys) e in
    ap (λ b. b ∷ xs) (equal_number x y parts.0) ∙ ap (λ l. y ∷ l) (equal_bytes xs ys parts.1)

-- a declaration of the URI whose prefix stands for it
declares_own : (spaces : List Space) (uri p : List ℕ) (x : Space) → stands_for spaces uri p ≡ true → bytes_eq x.prefix p ≡ true → x.uri ≡ uri → declares spaces uri x ≡ true
declares_own spaces uri p x stands prefix same =
    ap (λ v. v && stands_for spaces uri x.prefix) (ap (λ u. bytes_eq u uri) same ∙ same_bytes uri) ∙ ap (stands_for spaces uri) (equal_bytes x.prefix p prefix) ∙ stands

among_stands : (spaces : List Space) (uri p : List ℕ) → stands_for spaces uri p ≡ true → (xs : List Space) → uri_of xs p ≡ Some uri → stands_for spaces uri (prefix_among spaces uri xs) ≡ true
among_stands spaces uri p stands [] e = absurd (no_text uri (sym e))
among_stands spaces uri p stands (x ∷ xs) e = go (declares spaces uri x) refl (among_stands spaces uri p stands xs)
  where
    later : (w : Bool) → bytes_eq x.prefix p ≡ w → declares spaces uri x ≡ false → cond w (Some x.uri) (uri_of xs p) ≡ Some uri → uri_of xs p ≡ Some uri
    later true f g h = absurd (clash (sym (declares_own spaces uri p x stands f (ap (λ (o : Option (List ℕ)). uri_or_none o) h)) ∙ g))
    later false f g h = h

    go : (v : Bool) → declares spaces uri x ≡ v → (uri_of xs p ≡ Some uri → stands_for spaces uri (prefix_among spaces uri xs) ≡ true) → stands_for spaces uri (cond v x.prefix (prefix_among spaces uri xs)) ≡ true
    go true f rest = (both (bytes_eq x.uri uri) (stands_for spaces uri x.prefix) f).1
    go false f rest = rest (later (bytes_eq x.prefix p) refl f e)

xml_stands : (spaces : List Space) (uri : List ℕ) → bytes_eq uri xml_uri ≡ true → stands_for spaces uri xml_prefix ≡ true
xml_stands spaces uri e = ap (bytes_eq xml_uri) (equal_bytes uri xml_uri e) ∙ same_bytes xml_uri

-- where a prefix stands for a URI, so does the one that is written
for_stands : (spaces : List Space) (uri p : List ℕ) → stands_for spaces uri p ≡ true → uri_for spaces p ≡ Some uri → stands_for spaces uri (prefix_for spaces uri) ≡ true
for_stands spaces uri p stands e = go (bytes_eq uri xml_uri) refl
  where
    declared : (w : Bool) → bytes_eq uri xml_uri ≡ false → cond w (Some xml_uri) (uri_of spaces p) ≡ Some uri → uri_of spaces p ≡ Some uri
    declared true f h = absurd (clash (sym (same_bytes xml_uri) ∙ ap (λ (o : Option (List ℕ)). bytes_eq (uri_or_none o) xml_uri) h ∙ f))
    declared false f h = h

    go : (v : Bool) → bytes_eq uri xml_uri ≡ v → stands_for spaces uri (cond v xml_prefix (prefix_among spaces uri spaces)) ≡ true
    go true f = xml_stands spaces uri f
    go false f = among_stands spaces uri p stands spaces (declared (bytes_eq p xml_prefix) f e)

within_uri : (spaces : List Space) (p : List ℕ) → IsLocalName p → uri_for spaces p ≡ Some (uri_in spaces p) → IsUtf8 (uri_in spaces p) → IsWritableUri spaces (chars (uri_in spaces p))
within_uri spaces p is e utf8 =
    let uri = encode_utf8_all (chars (uri_in spaces p)) in
    let back : uri ≡ uri_in spaces p = encodes-chars (uri_in spaces p) utf8 in
    let own : stands_for spaces uri p ≡ true =
    ap (λ v. v && bytes_eq (uri_in spaces p) uri) (local_passes p is) ∙ ap (λ u. bytes_eq (uri_in spaces p) u) back ∙ same_bytes (uri_in spaces p) in
    let found = prefix_for spaces uri in
    let stands = for_stands spaces uri p own (e ∙ ap (λ (u : List ℕ). Some u) (sym back)) in
    let parts = both (is_local_name found) (bytes_eq (uri_in spaces found) uri) stands in
    (passes_local found parts.0, ap chars (equal_bytes (uri_in spaces found) uri parts.1 ∙ back))

-- Tokens

node_type_is : (a b c : Bool) (t : NodeTest) → cond a (Some test.AnyNode) (cond b (Some test.AnyText) (cond c (Some test.AnyComment) None)) ≡ Some t → IsNodeType t
node_type_is true b c t e = let same : test.AnyNode ≡ t = cc in subst IsNodeType same tt
node_type_is false true c t e = let same : test.AnyText ≡ t = cc in subst IsNodeType same tt
node_type_is false false true t e = let same : test.AnyComment ≡ t = cc in subst IsNodeType same tt
node_type_is false false false t e = absurd (no_text t (sym e))

uri_utf8 : (spaces : List Space) (p u : List ℕ) → AllByRecursion (λ (s : Space). IsUtf8 s.uri) spaces → uri_of spaces p ≡ Some u → IsUtf8 u
uri_utf8 [] p u all e = absurd (no_text u (sym e))
uri_utf8 (x ∷ xs) p u all e = go (bytes_eq x.prefix p) e (uri_utf8 xs p u all.1)
  where
    go : (v : Bool) → cond v (Some x.uri) (uri_of xs p) ≡ Some u → (uri_of xs p ≡ Some u → IsUtf8 u) → IsUtf8 u
    go true f rest = let same : x.uri ≡ u = cc in subst IsUtf8 same all.0
    go false f rest = rest f

-- bytes below 128 are text
low_bytes : (bs : List ℕ) → list_all (λ b. nat_lt b 128) bs ≡ true → (i : ℕ) → get_or bs i 0 < 128
low_bytes [] e zero = omega arith
low_bytes [] e (suc i) = omega arith
low_bytes (b ∷ bs) e zero = below b (both (nat_lt b 128) (list_all (λ c. nat_lt c 128) bs) e).0
  where
    below : (c : ℕ) → nat_lt c 128 ≡ true → c < 128
    below c h = grind (arith, nat_tests)
low_bytes (b ∷ bs) e (suc i) = low_bytes bs (both (nat_lt b 128) (list_all (λ c. nat_lt c 128) bs) e).1 i

-- what a prefix stands for is text
for_utf8 : (spaces : List Space) (p u : List ℕ) → AllByRecursion (λ (s : Space). IsUtf8 s.uri) spaces → uri_for spaces p ≡ Some u → IsUtf8 u
for_utf8 spaces p u all e = go (bytes_eq p xml_prefix) e
  where
    go : (v : Bool) → cond v (Some xml_uri) (uri_of spaces p) ≡ Some u → IsUtf8 u
    go true f = subst IsUtf8 (ap (λ (o : Option (List ℕ)). uri_or_none o) f) (IsUtf8-from_ascii xml_uri (low_bytes xml_uri refl))
    go false f = uri_utf8 spaces p u all f

module _ (spaces : List Space) (names : List NameParts) where
  name_writable : (s : List ℕ) → IsName s → prefix_fault spaces s ≡ None → IsStored names (attribute_name spaces s) → IsWritableName spaces names (id_of names (attribute_name spaces s))
  name_writable s is e stored =
      let parts = name_parts_are spaces s is e in
      record { parts = attribute_name spaces s; stored = stored; numbered = refl; local_is = parts.0; prefix_is = parts.1 }

  axis_writable : (o : Option Axis) → IsWritable spaces names (axis_or_wrong o)
  axis_writable None = tt
  axis_writable (Some a) = tt

  callee_writable : (name : List ℕ) (o : Option NodeTest) → lookup (bytes_eq name) node_types ≡ o → IsWritable spaces names (callee_or name o)
  callee_writable name None e = tt
  callee_writable name (Some t) e = node_type_is (bytes_eq name (codes "node")) (bytes_eq name (codes "text")) (bytes_eq name (codes "comment")) t e

  pub token_writable : (k : Kind) (s : List ℕ) (behind : List Token) → AllByRecursion (λ (x : Space). IsUtf8 x.uri) spaces → IsSpelled k s → IsUtf8 s → fault_at how.Expression spaces k s behind ≡ None → HasName spaces names k s
      → IsWritable spaces names (symbol_of spaces names k s)
  token_writable kind.Name s behind uris is utf8 e stored = name_writable s is e stored
  token_writable kind.Variable s behind uris is utf8 e stored =
      let same : without_dollar s ≡ is.0 = ap without_dollar is.2 in
      inl (id_of names (attribute_name spaces (without_dollar s)), refl, name_writable (without_dollar s) (subst IsName (sym same) is.1) e stored)
  token_writable kind.Literal s behind uris is utf8 e stored = inr (inl (chars (inside s), refl, literal_text s is utf8))
  token_writable kind.Number s behind uris is utf8 e stored = inr (inr (number_value s, refl, number_low s))
  token_writable kind.Within s behind uris is utf8 e stored =
      let prefix : prefix_of s ≡ is.0 = ap prefix_of is.2 ∙ ap prefix_from (parted_prefixed is.0 (42 ∷ []) is.1) in
      let local : IsLocalName (prefix_of s) = subst IsLocalName (sym prefix) is.1 in
      let has = bound rule.UnboundPrefix spaces (prefix_of s) local e in
      within_uri spaces (prefix_of s) local has (for_utf8 spaces (prefix_of s) (uri_in spaces (prefix_of s)) uris has)
  token_writable kind.Fraction s behind uris is utf8 e stored = absurd (no_text rule.Fraction e)
  token_writable kind.Callee s behind uris is utf8 e stored = callee_writable s (lookup (bytes_eq s) node_types) refl
  token_writable kind.AxisName s behind uris is utf8 e stored = axis_writable (lookup (bytes_eq s) axes)
  token_writable k s behind uris is utf8 e stored = tt
