-- What a document is: neighbours as they are written, one element with comments beside it, whose lines break no rule.
use Rattle.std.specs.Prelude.{◌≡◌, None, IsTrue}
use Rattle.std.specs.List.{AllByRecursion}
use Rattle.serna_kinds.specs.Qualified.{is_name}
use Rattle.tree_lines.specs.Faults.{fault_of}
use Rattle.tree_lines.specs.Written.{Written, Attribute, written_lines}
use Rattle.tree_lines.specs.Written as written

abbrev pub AreComments : Written → Type 0
AreComments written.end = Unit {0}
AreComments (written.text t rest) = ⊥
AreComments (written.comment t rest) = AreComments rest
AreComments (written.element name attributes content rest) = ⊥

abbrev pub IsTop : Written → Type 0
IsTop written.end = ⊥
IsTop (written.text t rest) = ⊥
IsTop (written.comment t rest) = IsTop rest
IsTop (written.element name attributes content rest) = AreComments rest

-- each attribute's name is a name, so that no space in it could be taken for the one behind it
abbrev pub AreParted : Written → Type 0
AreParted written.end = Unit {0}
AreParted (written.text t rest) = AreParted rest
AreParted (written.comment t rest) = AreParted rest
AreParted (written.element name attributes content rest) =
    AllByRecursion (λ (attribute : Attribute). IsTrue (is_name attribute.name)) attributes × AreParted content × AreParted rest

pub record IsDocument (document : Written) : Type 0 where
  pub top : IsTop document
  pub parted : AreParted document
  pub faultless : fault_of (written_lines document) ≡ None
