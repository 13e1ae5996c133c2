-- Content models as XML 1.0, section 3.2, has them, over names that are written or numbered.
use Rattle.std.specs.Prelude.{List, [], ◌∷◌, ◌++◌, map}
use Rattle.content_model.specs.declared.particle.Separator.{Separator}
use Rattle.content_model.specs.declared.particle.Occurrence.{Occurrence}

-- a content particle: a name, two particles joined, or one that is repeated
-- (a group of three parts joins the first two, and those to the third)
pub data Particle (A : Type 0) : Type 0 where
  Name : A → Particle A
  Joined : Separator → Particle A → Particle A → Particle A
  Repeated : Occurrence → Particle A → Particle A

-- EMPTY, ANY, text among elements of these names, or the element content of a group
pub data Content (A : Type 0) : Type 0 where
  Empty : Content A
  Any : Content A
  Mixed : List A → Content A
  Group : Particle A → Content A

-- the particle, with other names
abbrev pub renamed : {A B : Type 0} → (A → B) → Particle A → Particle B
renamed f (Name a) = Name (f a)
renamed f (Joined s p q) = Joined s (renamed f p) (renamed f q)
renamed f (Repeated o p) = Repeated o (renamed f p)

-- the model, with other names
abbrev pub with_names : {A B : Type 0} → (A → B) → Content A → Content B
with_names f Empty = Empty
with_names f Any = Any
with_names f (Mixed names) = Mixed (map f names)
with_names f (Group p) = Group (renamed f p)

-- the names of a particle, from left to right
abbrev pub particle_names : {A : Type 0} → Particle A → List A
particle_names (Name a) = a ∷ []
particle_names (Joined s p q) = particle_names p ++ particle_names q
particle_names (Repeated o p) = particle_names p

-- the names of a model
abbrev pub content_names : {A : Type 0} → Content A → List A
content_names Empty = []
content_names Any = []
content_names (Mixed names) = names
content_names (Group p) = particle_names p
