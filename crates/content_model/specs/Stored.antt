-- How a model is kept, and how its value is coded. No public clause speaks of it.
use Rattle.std.specs.Prelude.{◌≡◌, ℕ, zero, suc, List, [], ◌∷◌, ◌++◌, map, refl}
use Rattle.std.specs.Coded.{Coded, code_by, coded_list, coded×, coded_ℕ}
use Rattle.std.proofs.Common.{ap, sym, ◌∙◌, append_assoc}
use Rattle.std.proofs.lemmas.List.{append-nil}
use Rattle.content_model.specs.declared.particle.Separator.{Separator}
use Rattle.content_model.specs.declared.particle.Separator.TheVariants.{Sequence, Choice}
use Rattle.content_model.specs.declared.particle.Occurrence.TheVariants.{Optional, ZeroOrMore, OneOrMore}
use Rattle.content_model.specs.Particle.{Particle, Content, Name, Joined, Repeated, Empty, Any, Mixed, Group}

-- the two particles on top of a stack, joined
abbrev pub join_top : Separator → List (Particle ℕ) → List (Particle ℕ)
join_top s [] = []
join_top s (q ∷ []) = []
join_top s (q ∷ p ∷ ps) = Joined s p q ∷ ps

-- the first particle
abbrev pub first_particle : List (Particle ℕ) → Particle ℕ
first_particle [] = Name 0
first_particle (p ∷ ps) = p

-- the others
abbrev pub rest_particles : List (Particle ℕ) → List (Particle ℕ)
rest_particles [] = []
rest_particles (p ∷ ps) = ps

-- a particle as a list of marks, each a kind and a number, the root first and the left part last
abbrev pub marks : Particle ℕ → List (ℕ × ℕ)
marks (Name n) = (0, n) ∷ []
marks (Joined Sequence p q) = (1, 0) ∷ (marks q ++ marks p)
marks (Joined Choice p q) = (2, 0) ∷ (marks q ++ marks p)
marks (Repeated Optional p) = (3, 0) ∷ marks p
marks (Repeated ZeroOrMore p) = (4, 0) ∷ marks p
marks (Repeated OneOrMore p) = (5, 0) ∷ marks p

-- the stack after a mark
abbrev pub put_mark : ℕ → ℕ → List (Particle ℕ) → List (Particle ℕ)
put_mark zero n ps = Name n ∷ ps
put_mark (suc zero) n ps = join_top Sequence ps
put_mark (suc (suc zero)) n ps = join_top Choice ps
put_mark (suc (suc (suc zero))) n ps = Repeated Optional (first_particle ps) ∷ rest_particles ps
put_mark (suc (suc (suc (suc zero)))) n ps = Repeated ZeroOrMore (first_particle ps) ∷ rest_particles ps
put_mark (suc (suc (suc (suc (suc k))))) n ps = Repeated OneOrMore (first_particle ps) ∷ rest_particles ps

-- the particles that marks stand for
abbrev pub from_marks : List (ℕ × ℕ) → List (Particle ℕ)
from_marks [] = []
from_marks (m ∷ ms) = put_mark m.0 m.1 (from_marks ms)

pub from_marks-marks : (p : Particle ℕ) (ms : List (ℕ × ℕ)) → from_marks (marks p ++ ms) ≡ p ∷ from_marks ms
from_marks-marks (Name n) ms = refl
from_marks-marks (Joined Sequence p q) ms =
    ap (λ l. join_top Sequence (from_marks l)) (append_assoc (marks q) (marks p) ms)
    ∙ ap (join_top Sequence) (from_marks-marks q (marks p ++ ms) ∙ ap (λ l. q ∷ l) (from_marks-marks p ms))
from_marks-marks (Joined Choice p q) ms =
    ap (λ l. join_top Choice (from_marks l)) (append_assoc (marks q) (marks p) ms)
    ∙ ap (join_top Choice) (from_marks-marks q (marks p ++ ms) ∙ ap (λ l. q ∷ l) (from_marks-marks p ms))
from_marks-marks (Repeated Optional p) ms = ap (λ l. Repeated Optional (first_particle l) ∷ rest_particles l) (from_marks-marks p ms)
from_marks-marks (Repeated ZeroOrMore p) ms = ap (λ l. Repeated ZeroOrMore (first_particle l) ∷ rest_particles l) (from_marks-marks p ms)
from_marks-marks (Repeated OneOrMore p) ms = ap (λ l. Repeated OneOrMore (first_particle l) ∷ rest_particles l) (from_marks-marks p ms)

-- a model as a list of marks
abbrev pub content_marks : Content ℕ → List (ℕ × ℕ)
content_marks Empty = (0, 0) ∷ []
content_marks Any = (1, 0) ∷ []
content_marks (Mixed names) = (2, 0) ∷ map (λ n. (0, n)) names
content_marks (Group p) = (3, 0) ∷ marks p

abbrev pub content_from_kind : ℕ → List (ℕ × ℕ) → Content ℕ
content_from_kind zero ms = Empty
content_from_kind (suc zero) ms = Any
content_from_kind (suc (suc zero)) ms = Mixed (map (λ (m : ℕ × ℕ). m.1) ms)
content_from_kind (suc (suc (suc k))) ms = Group (first_particle (from_marks ms))

abbrev pub content_from_marks : List (ℕ × ℕ) → Content ℕ
content_from_marks [] = Empty
content_from_marks (m ∷ ms) = content_from_kind m.0 ms

pub numbers_back : (ns : List ℕ) → map (λ (m : ℕ × ℕ). m.1) (map (λ n. (0, n)) ns) ≡ ns
numbers_back [] = refl
numbers_back (n ∷ ns) = ap (λ l. n ∷ l) (numbers_back ns)

pub content_from_marks-content_marks : (c : Content ℕ) → content_from_marks (content_marks c) ≡ c
content_from_marks-content_marks Empty = refl
content_from_marks-content_marks Any = refl
content_from_marks-content_marks (Mixed names) = ap Mixed (numbers_back names)
content_from_marks-content_marks (Group p) =
    ap (λ l. Group (first_particle (from_marks l))) (sym (append-nil (marks p))) ∙ ap (λ l. Group (first_particle l)) (from_marks-marks p [])

-- the code of a model
abbrev pub content_code : Coded (Content ℕ)
content_code = code_by (List (ℕ × ℕ)) (coded_list (coded× coded_ℕ coded_ℕ)) content_marks content_from_marks content_from_marks-content_marks
