-- The texts of content models (XML 1.0, sections 2.3, 3.2.1 and 3.2.2, with U+0020 as the one white space).
use Rattle.std.specs.Prelude.{◌≡◌, ◌≤◌, ◌<◌, ℕ, zero, suc, ◌⊎◌, IsTrue, List, [], ◌∷◌, ◌++◌, codes, take, length}
use Rattle.std.specs.List.{AllByRecursion}
use Rattle.serna_kinds.specs.Qualified.{begins_name, continues_name}
use Rattle.content_model.specs.declared.particle.Separator.{Separator}
use Rattle.content_model.specs.declared.particle.Separator.TheVariants.{Sequence, Choice}
use Rattle.content_model.specs.declared.particle.Occurrence.{Occurrence}
use Rattle.content_model.specs.declared.particle.Occurrence.TheVariants.{Optional, ZeroOrMore, OneOrMore}
use Rattle.content_model.specs.Particle.{Particle, Content, Name, Joined, Repeated, Empty, Any, Mixed, Group}

-- Names

-- a name without a colon
abbrev pub IsLocalName : List ℕ → Type 0
IsLocalName [] = ⊥
IsLocalName (b ∷ bs) = IsTrue (begins_name b) × AllByRecursion (λ c. IsTrue (continues_name c)) bs

-- a local name, or a prefix, a colon and a local name
abbrev pub IsName : List ℕ → Type 0
IsName bytes = IsLocalName bytes ⊎ ((prefix : List ℕ) × (local : List ℕ) × IsLocalName prefix × IsLocalName local × (bytes ≡ prefix ++ (codes ":" ++ local)))

-- Tokens

pub data Token : Type 0 where
  Open : Token
  Close : Token
  Between : Separator → Token
  Times : Occurrence → Token
  Text : Token
  Nothing : Token
  Anything : Token
  Word : List ℕ → Token

-- the bytes of a token
abbrev pub spelling : Token → List ℕ
spelling Open = codes "("
spelling Close = codes ")"
spelling (Between Sequence) = codes ","
spelling (Between Choice) = codes "|"
spelling (Times Optional) = codes "?"
spelling (Times ZeroOrMore) = codes "*"
spelling (Times OneOrMore) = codes "+"
spelling Text = codes "#PCDATA"
spelling Nothing = codes "EMPTY"
spelling Anything = codes "ANY"
spelling (Word name) = name

-- a word is a name
abbrev pub IsToken : Token → Type 0
IsToken (Word name) = IsName name
IsToken _ = Unit {0}

-- spaces alone, or none
abbrev pub AreSpaces : List ℕ → Type 0
AreSpaces = AllByRecursion (λ b. b ≡ 32)

-- the text is these tokens, with any spaces before each and behind the last
abbrev pub Spells : List Token → List ℕ → Type 0
Spells [] text = AreSpaces text
Spells (t ∷ ts) text = (gap : List ℕ) × (rest : List ℕ) × AreSpaces gap × IsToken t × (text ≡ gap ++ (spelling t ++ rest)) × Spells ts rest

-- Groups

-- tokens, and the particle that they stand for
pub record Part : Type 0 where
  pub tokens : List Token
  pub particle : Particle (List ℕ)

-- the tokens of the further parts of a group, each behind the separator
abbrev pub behind : Separator → List Part → List Token
behind s [] = []
behind s (part ∷ parts) = Between s ∷ (part.tokens ++ behind s parts)

-- a particle, and the further parts joined to it one after another
abbrev pub joined : Separator → Particle (List ℕ) → List Part → Particle (List ℕ)
joined s p [] = p
joined s p (part ∷ parts) = joined s (Joined s p part.particle) parts

-- a part with a sign behind it
abbrev pub signed : Occurrence → Part → Part
signed o part = record { tokens = part.tokens ++ Times o ∷ []; particle = Repeated o part.particle }

-- one of these, with a sign or without
abbrev pub MaySign : (Part → Type 0) → Part → Type 0
MaySign Is part = Is part ⊎ ((o : Occurrence) × (plain : Part) × Is plain × (part ≡ signed o plain))

-- a name
abbrev pub IsWord : Part → Type 0
IsWord part = (name : List ℕ) × (part ≡ record { tokens = Word name ∷ []; particle = Name name })

-- A group: one part or more, all joined by the same separator, in parentheses. A part is a name or a group, with a sign
-- or without. No more than this many parentheses are open at once.
unfoldable pub IsGroup : ℕ → Part → Type 0
IsGroup zero part = ⊥
IsGroup (suc depth) part = (s : Separator) × (first : Part) × (others : List Part)
    × MaySign (λ p. IsWord p ⊎ IsGroup depth p) first
    × AllByRecursion (MaySign (λ p. IsWord p ⊎ IsGroup depth p)) others
    × (part ≡ record { tokens = Open ∷ (first.tokens ++ (behind s others ++ Close ∷ [])); particle = joined s first.particle others })

-- Models

-- the tokens of the names of a mixed model
abbrev pub alternatives : List (List ℕ) → List Token
alternatives [] = []
alternatives (name ∷ names) = Between Choice ∷ (Word name ∷ alternatives names)

-- the tokens of a model; at most 64 parentheses are open at once
abbrev pub IsModel : Content (List ℕ) → List Token → Type 0
IsModel Empty tokens = tokens ≡ Nothing ∷ []
IsModel Any tokens = tokens ≡ Anything ∷ []
IsModel (Mixed names) tokens = (tokens ≡ Open ∷ (Text ∷ (alternatives names ++ Close ∷ Times ZeroOrMore ∷ [])))
    -- without names the star may be left out
    ⊎ ((names ≡ []) × (tokens ≡ Open ∷ Text ∷ Close ∷ []))
IsModel (Group p) tokens = MaySign (IsGroup 64) (record { tokens = tokens; particle = p })

-- the text is one of this model, whose names are written
unfoldable pub IsText : List ℕ → Content (List ℕ) → Type 0
IsText text content = (tokens : List Token) × Spells tokens text × IsModel content tokens

-- The first fault

-- some model's text begins with these bytes
unfoldable pub BeginsModel : List ℕ → Type 0
BeginsModel bytes = (more : List ℕ) × (content : Content (List ℕ)) × IsText (bytes ++ more) content

-- The text is no model's. The bytes before this place begin a model's text, and those up to it, that byte included,
-- begin none. At the text's length it ends too early.
pub record IsFirstFault (text : List ℕ) (place : ℕ) : Type 0 where
  pub within : place ≤ length text
  pub before : BeginsModel (take place text)
  pub stuck : place < length text → BeginsModel (take (suc place) text) → ⊥
  pub none : (content : Content (List ℕ)) → IsText text content → ⊥
