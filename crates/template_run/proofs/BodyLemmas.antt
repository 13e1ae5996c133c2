-- What a body gives, instruction by instruction.
use Rattle.std.proofs.Common.{◌≡◌, ℕ, zero, suc, ◌+◌, ◌<◌, ◌≤◌, ◌++◌, List, [], ◌∷◌, Option, Some, None, length, take, get_or, refl, sym, ap, ◌∙◌, subst, arith, append_assoc}
use Rattle.std.proofs.lemmas.List.{take_more, append-nil}
use Rattle.std.specs.List.{flat_map}
use Rattle.std.specs.Option.{option_map}
use Rattle.serna_kinds.specs.declared.cells.AttrPair.{AttrPair}
use Rattle.serna_kinds.specs.declared.cells.NameId.{NameId}
use Rattle.serna_kinds.specs.Names.{NameParts}
use Rattle.source_model.specs.Source.{Source}
use Rattle.result_origin.specs.Parts.{ResultPart, Says, Begin, Finish}
use Rattle.style_sheet.specs.declared.style.Instruction.{Instruction}
use Rattle.style_sheet.specs.declared.style.Instruction.TheVariants as instruction
use Rattle.style_sheet.specs.Instructions.{Instructions}
use Rattle.style_sheet.specs.Bodies.{body_of, size_of}
use Rattle.instance_store.specs.declared.request.Asked.{Asked}
use Rattle.template_run.specs.Instances.{Context, fixed_text, attribute_parts, element_parts, applied_in, joined, body_parts, or_fault}
use Rattle.template_run.specs.Results.{GrowsBy}

abbrev Parts : Type 0
Parts = List (ResultPart Asked)

joined-nothing : (parts : Option Parts) → joined parts (Some []) ≡ parts
joined-nothing None = refl
joined-nothing (Some ps) = ap (λ qs. Some qs) (append-nil ps)

joined-assoc : (a b c : Option Parts) → joined (joined a b) c ≡ joined a (joined b c)
joined-assoc None b c = refl
joined-assoc (Some xs) None c = refl
joined-assoc (Some xs) (Some ys) None = refl
joined-assoc (Some xs) (Some ys) (Some zs) = ap (λ ps. Some ps) (append_assoc xs ys zs)

joined-none : (b : Option Parts) → b ≡ joined (Some []) b
joined-none None = refl
joined-none (Some ys) = refl

module _ (names : List NameParts) (source : Source) (rule : ℕ) (context : Context) where
  abbrev given : Instructions → Option Parts
  given body = body_parts names source rule context body

  -- the first instruction, and those behind it
  first_given : (one : Instruction) (more : List Instruction) → given (body_of (one ∷ more)) ≡ joined (given (body_of (one ∷ []))) (given (body_of more))
  first_given (instruction.Text t) more = ap (λ a. joined a (given (body_of more))) (sym (joined-nothing (Some (fixed_text rule t))))
  first_given (instruction.Element name attributes content) more =
      ap (λ a. joined a (given (body_of more))) (sym (joined-nothing (option_map (element_parts rule name attributes) (given content))))
  first_given instruction.ApplyTemplates more =
      ap (λ a. joined a (given (body_of more))) (sym (joined-nothing (Some (applied_in source None context.current))))

  given_more : (xs : List Instruction) (x : Instruction) → given (body_of (xs ++ x ∷ [])) ≡ joined (given (body_of xs)) (given (body_of (x ∷ [])))
  given_more [] x = joined-none (given (body_of (x ∷ [])))
  given_more (y ∷ xs) x =
      first_given y (xs ++ x ∷ []) ∙ ap (joined (given (body_of (y ∷ [])))) (given_more xs x)
      ∙ sym (joined-assoc (given (body_of (y ∷ []))) (given (body_of xs)) (given (body_of (x ∷ []))))
      ∙ ap (λ a. joined a (given (body_of (x ∷ [])))) (sym (first_given y xs))

  -- two pieces that were added, one after the other
  pub grown_twice : (old mid new : Parts) (a b : Option Parts) → GrowsBy old mid a → GrowsBy mid new b → GrowsBy old new (joined a b)
  grown_twice old mid new None b f g = absurd f
  grown_twice old mid new (Some xs) None f g = absurd g
  grown_twice old mid new (Some xs) (Some ys) f g = g ∙ ap (λ ps. ps ++ ys) f ∙ append_assoc old xs ys

  pub grown_more : (old mid new : Parts) (body : List Instruction) (i : ℕ) (one : Instruction) → i < length body → one ≡ get_or body i one →
      GrowsBy old mid (given (body_of (take i body))) → GrowsBy mid new (given (body_of (one ∷ []))) → GrowsBy old new (given (body_of (take (i + 1) body)))
  grown_more old mid new body i one within is f g =
      subst (GrowsBy old new)
      (ap (λ (x : Instruction). joined (given (body_of (take i body))) (given (body_of (x ∷ [])))) is ∙ sym (given_more (take i body) (get_or body i one))
      ∙ sym (ap (λ (xs : List Instruction). given (body_of xs)) (take_more body i one within)))
      (grown_twice old mid new (given (body_of (take i body))) (given (body_of (one ∷ []))) f g)

  -- one instruction alone
  pub grown_alone : (old new : Parts) (a : Option Parts) → GrowsBy old new a → GrowsBy old new (joined a (Some []))
  grown_alone old new a f = subst (GrowsBy old new) (sym (joined-nothing a)) f

  -- an element around what its content gives
  pub grown_element : (old begun with_attributes inner new : Parts) (name : NameId) (attributes : List AttrPair) (content : Option Parts) → begun ≡ old ++ Says (Begin name rule) ∷ [] →
      with_attributes ≡ begun ++ flat_map (attribute_parts rule) attributes → GrowsBy with_attributes inner content → new ≡ inner ++ Says Finish ∷ [] →
      GrowsBy old new (option_map (element_parts rule name attributes) content)
  grown_element old begun with_attributes inner new name attributes None b w f e = f
  grown_element old begun with_attributes inner new name attributes (Some ps) b w f e =
      e ∙ ap (λ qs. qs ++ Says Finish ∷ []) (f ∙ ap (λ qs. qs ++ ps) (w ∙ ap (λ qs. qs ++ flat_map (attribute_parts rule) attributes) b))
      ∙ ap (λ qs. (qs ++ ps) ++ Says Finish ∷ []) (append_assoc old (Says (Begin name rule) ∷ []) (flat_map (attribute_parts rule) attributes))
      ∙ ap (λ qs. qs ++ Says Finish ∷ []) (append_assoc old (Says (Begin name rule) ∷ flat_map (attribute_parts rule) attributes) ps)
      ∙ append_assoc old ((Says (Begin name rule) ∷ flat_map (attribute_parts rule) attributes) ++ ps) (Says Finish ∷ [])
      ∙ ap (λ qs. old ++ Says (Begin name rule) ∷ qs) (append_assoc (flat_map (attribute_parts rule) attributes) ps (Says Finish ∷ []))

-- an item of a body is no larger than the body
pub item_le-size : (body : List Instruction) (i : ℕ) (one : Instruction) → i < length body → one ≡ get_or body i one → size_of (body_of (one ∷ [])) ≤ size_of (body_of body)
item_le-size body i one within is = subst (λ (x : Instruction). size_of (body_of (x ∷ [])) ≤ size_of (body_of body)) (sym is) (at body i one within)
  where
    head : (x : Instruction) (xs : List Instruction) → size_of (body_of (x ∷ [])) ≤ size_of (body_of (x ∷ xs))
    head (instruction.Text t) xs = omega arith
    head (instruction.Element name attributes content) xs = omega arith
    head instruction.ApplyTemplates xs = omega arith

    rest : (x : Instruction) (xs : List Instruction) → size_of (body_of xs) ≤ size_of (body_of (x ∷ xs))
    rest (instruction.Text t) xs = omega arith
    rest (instruction.Element name attributes content) xs = omega arith
    rest instruction.ApplyTemplates xs = omega arith

    at : (body : List Instruction) (i : ℕ) (one : Instruction) → i < length body → size_of (body_of (get_or body i one ∷ [])) ≤ size_of (body_of body)
    at [] i one within = absurd (omega (arith, within))
    at (x ∷ xs) zero one within = head x xs
    at (x ∷ xs) (suc i) one within = omega (arith, at xs i one (omega (arith, within)), rest x xs)

-- a body from nothing
pub grown_whole : (old new : List (ResultPart Asked)) (a : Option (List (ResultPart Asked))) (rule : ℕ) → old ≡ [] → GrowsBy old new a → new ≡ or_fault rule a
grown_whole old new None rule e f = absurd f
grown_whole old new (Some ps) rule e f = f ∙ ap (λ qs. qs ++ ps) e
