use Rattle.std.proofs.Common.{◌≡◌, true, false, [], refl, ap, sym, ◌∙◌, reverse}
use Rattle.content_model.specs.Machine.{Mixing}
use Rattle.content_model.proofs.Building.{text_begins, no_text, other_byte}
use Rattle.content_model.proofs.builder.Builder.begin_text.Goals.{else-byte-eq35-via-then-byte-eq35+else-is_fresh, else-byte-eq35-via-else-byte-eq35}
use Rattle.content_model.proofs.builder.Builder.begin_text.Goals as goal

pub returns-then-is_fresh : goal.returns-then-is_fresh
returns-then-is_fresh c = λ number f fs shows.
    let b = c.args.self.now in
    let fresh = sym c.as_slice.ensures.value ∙ c.is_fresh.ensures.0 c.if-is_fresh.true in
    let begun = text_begins number b f fs c.args.byte c.if-byte-eq35.true fresh shows in
    (Mixing [], begun.0, record { place_is = refl; groups_are = ap reverse fresh; nodes_are = begun.1; nullable_is = tt; names_are = shows.names_are })

pub returns-else-byte-eq35 : goal.returns-else-byte-eq35
returns-else-byte-eq35 c = λ number f fs shows.
    elim c.else-byte-eq35.branch [
      | else-byte-eq35-via-then-byte-eq35+else-is_fresh w ↦ no_text number c.args.self.now f fs c.args.byte (λ fresh. let yes = w.is_fresh.ensures.1 (w.as_slice.ensures.value ∙ fresh) in let no : true ≡ false = sym yes ∙ w.if-is_fresh.false in cc) shows
      | else-byte-eq35-via-else-byte-eq35 w ↦ other_byte f fs c.args.byte w.if-byte-eq35.false
    ]
