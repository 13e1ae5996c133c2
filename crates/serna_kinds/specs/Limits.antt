-- The limits of inputs and documents (this project's own).
use Rattle.std.specs.Prelude.{ℕ}

-- the bytes of a text node and of an attribute's value
abbrev pub text_limit : ℕ
text_limit = 16384

-- the nodes of a document, removed ones too, without the document node
abbrev pub node_limit : ℕ
node_limit = 1000000

-- how deep elements stand in one another, the outermost one at 1
abbrev pub depth_limit : ℕ
depth_limit = 120

-- the changes of a document in one run
abbrev pub change_limit : ℕ
change_limit = 50000
