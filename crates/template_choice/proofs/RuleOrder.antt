-- The order of rules (XSLT 1.0, section 5.5) is a total one on places.
use Rattle.std.proofs.Common.{◌≡◌, ◌≤◌, inl, inr, true, false, arith}
use lib.Signed.{◌≤ℤ◌}
use Rattle.std.proofs.lemmas.Bool.{cases_lt}
use Rattle.std.proofs.lemmas.Int.{ints}
use Rattle.style_sheet.specs.declared.style.Rule.{Rule}
use Rattle.style_sheet.specs.Order.{is_less}

pub less_not_itself : (a : Rule) → is_less a a ≡ false
less_not_itself a = grind (arith, ints)

-- a rule is not less than another, part by part
record NotLess (a b : Rule) : Type 0 where
  precedence : b.precedence ≤ a.precedence
  priority : a.precedence ≡ b.precedence → b.priority ≤ℤ a.priority
  place : a.precedence ≡ b.precedence → a.priority ≡ b.priority → b.place ≤ a.place

parts_of_not_less : (a b : Rule) → is_less a b ≡ false → NotLess a b
parts_of_not_less a b h = record { precedence = grind (arith, ints); priority = λ same. grind (arith, ints); place = λ same alike. grind (arith, ints) }

parts_of_less : (a b : Rule) → is_less a b ≡ true → NotLess b a
parts_of_less a b h = record { precedence = grind (arith, ints); priority = λ same. grind (arith, ints); place = λ same alike. grind (arith, ints) }

not_less : (a b : Rule) → NotLess a b → is_less a b ≡ false
not_less a b h = elim (cases_lt b.precedence a.precedence) [
  | inl below ↦ (let x : a.precedence ≤ b.precedence → ⊥ = omega arith in grind (arith, ints))
  | inr above ↦ (let same : a.precedence ≡ b.precedence = omega (arith, h.precedence) in let p = h.priority same in let q = h.place same in grind (arith, ints))
]

pub less_one_way : (a b : Rule) → is_less a b ≡ true → is_less b a ≡ false
less_one_way a b h = not_less b a (parts_of_less a b h)

pub not_less_along : (a b c : Rule) → is_less a b ≡ false → is_less b c ≡ false → is_less a c ≡ false
not_less_along a b c f g = not_less a c (along (parts_of_not_less a b f) (parts_of_not_less b c g))
  where
    along : NotLess a b → NotLess b c → NotLess a c
    along f g = record {
      precedence = omega (arith, f.precedence, g.precedence);
      priority = λ same.
          let x : a.precedence ≡ b.precedence = omega (arith, f.precedence, g.precedence) in
          let y : b.precedence ≡ c.precedence = omega (arith, f.precedence, g.precedence) in
          omega (arith, ints, f.priority x, g.priority y);
      place = λ same alike.
          let x : a.precedence ≡ b.precedence = omega (arith, f.precedence, g.precedence) in
          let y : b.precedence ≡ c.precedence = omega (arith, f.precedence, g.precedence) in
          let p = f.priority x in
          let q = g.priority y in
          let v : a.priority ≡ b.priority = omega (arith, ints, p, q, alike) in
          let w : b.priority ≡ c.priority = omega (arith, ints, p, q, alike) in
          omega (arith, f.place x v, g.place y w);
    }

pub same_place : (a b : Rule) → is_less a b ≡ false → is_less b a ≡ false → a.place ≡ b.place
same_place a b f g = grind (arith, ints)
