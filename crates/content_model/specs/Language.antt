-- The language of a model: the lists of children that it allows, by the usual relation on regular expressions.
use Rattle.std.specs.Prelude.{◌≡◌, ℕ, ◌⊎◌, List, [], ◌∷◌, ◌++◌, All, Contains}
use Rattle.std.specs.List.{AllByRecursion, concat}
use Rattle.content_model.specs.declared.particle.Separator.TheVariants.{Sequence, Choice}
use Rattle.content_model.specs.declared.particle.Occurrence.TheVariants.{Optional, ZeroOrMore, OneOrMore}
use Rattle.content_model.specs.Particle.{Particle, Content, Name, Joined, Repeated, Empty, Any, Mixed, Group}

-- the word is these pieces, one after another, and each of them is in the language
pub record AreIn (Language : List ℕ → Type 0) (pieces : List (List ℕ)) (word : List ℕ) : Type 0 where
  pub joined : word ≡ concat pieces
  pub each : AllByRecursion Language pieces

-- the word is in the language of the particle (XML 1.0, section 3.2.1)
abbrev pub Matches : Particle ℕ → List ℕ → Type 0
Matches (Name n) word = word ≡ n ∷ []
-- a word of the left part, and then one of the right part
Matches (Joined Sequence p q) word = (front : List ℕ) × (back : List ℕ) × (word ≡ front ++ back) × Matches p front × Matches q back
Matches (Joined Choice p q) word = Matches p word ⊎ Matches q word
Matches (Repeated Optional p) word = (word ≡ []) ⊎ Matches p word
Matches (Repeated ZeroOrMore p) word = (pieces : List (List ℕ)) × AreIn (Matches p) pieces word
Matches (Repeated OneOrMore p) word = (first : List ℕ) × (others : List (List ℕ)) × AreIn (Matches p) (first ∷ others) word

-- the word is allowed by the model; 0 is text
abbrev pub Allows : Content ℕ → List ℕ → Type 0
Allows Empty word = word ≡ []
Allows Any word = Unit {0}
Allows (Mixed names) word = All (λ symbol. (symbol ≡ 0) ⊎ Contains names symbol) word
Allows (Group p) word = Matches p word
