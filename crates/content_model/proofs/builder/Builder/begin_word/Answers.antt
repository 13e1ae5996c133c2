use Rattle.std.proofs.Common.{◌≡◌, true, false, sym, ◌∙◌, subst, Option}
use Rattle.content_model.specs.Machine.{Reading}
use Rattle.content_model.specs.Shown.{Begins}
use Rattle.content_model.proofs.Building.{name_begins, text_instead, mixed_begins}
use Rattle.content_model.proofs.builder.Builder.begin_word.Goals as goal

pub returns-then-begins_name : goal.returns-then-begins_name
returns-then-begins_name c = λ number s shows. name_begins number c.args.self.now s c.args.byte c.in-Want.is (λ none. let yes = c.is_nil.ensures.1 (c.as_slice.ensures.value ∙ none) in let no : true ≡ false = sym yes ∙ c.if-is_nil.false in cc) (sym c.begins_name.ensures ∙ c.if-begins_name.true) shows

pub returns-else-begins_name : goal.returns-else-begins_name
returns-else-begins_name c = λ number s shows.
    let text = text_instead number c.args.self.now s c.args.byte c.in-Want.is (λ none. let yes = c.is_nil.ensures.1 (c.as_slice.ensures.value ∙ none) in let no : true ≡ false = sym yes ∙ c.if-is_nil.false in cc) (sym c.begins_name.ensures ∙ c.if-begins_name.false) shows in
    subst (λ (r : Option Reading). Begins number c.args.byte c.begin_text.result c.begin_text.new.self r) text.2 (c.begin_text.ensures number text.0 text.1 text.3)

pub returns-then-begins_name-2 : goal.returns-then-begins_name-2
returns-then-begins_name-2 c = λ number s shows. mixed_begins number c.args.self.now s c.args.byte c.in-MixedName.is (sym c.begins_name-in-MixedName.ensures ∙ c.if-begins_name-2.true) shows
