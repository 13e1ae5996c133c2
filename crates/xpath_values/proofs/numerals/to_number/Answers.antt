use Rattle.std.proofs.Common.{◌≡◌, sym, ◌∙◌, ap}
use Rattle.std.specs.Str.{chars}
use Rattle.xpath_values.specs.Numerals.{trimmed, numeral_number, text_number}
use Rattle.xpath_values.proofs.Spelling.{number_of_bytes, whole_from_spells, spells_from_whole, nan_spells_none, nan_from_none}
use Rattle.xpath_values.proofs.numerals.to_number.Goals as goal
use Rattle.xpath_values.proofs.numerals.to_number.Goals.{After-numeral_number}

number_is : (c : After-numeral_number) → c.numeral_number.result ≡ text_number (chars c.args.text.now)
number_is c =
    c.numeral_number.ensures ∙ (ap numeral_number (c.trim.ensures ∙ ap trimmed c.as_bytes.ensures.value) ∙ number_of_bytes c.args.text.now c.utf8.text)

pub returns-clause-number : goal.returns-clause-number
returns-clause-number c = number_is c

pub returns-clause-whole : goal.returns-clause-whole
returns-clause-whole c value = (
  λ h. spells_from_whole (chars c.args.text.now) value (sym (number_is c) ∙ h),
  λ s. number_is c ∙ whole_from_spells (chars c.args.text.now) value s,
)

pub returns-clause-nan : goal.returns-clause-nan
returns-clause-nan c = (
  λ h value s. nan_spells_none (chars c.args.text.now) (sym (number_is c) ∙ h) value s,
  λ none. number_is c ∙ nan_from_none (chars c.args.text.now) none,
)
