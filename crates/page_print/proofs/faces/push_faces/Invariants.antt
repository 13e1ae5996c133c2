use Rattle.std.proofs.Common.{◌≡◌, ◌++◌, drop}
use Rattle.std.specs.String.{string_bytes}
use Rattle.page_print.specs.Print.{faces_text}
use Rattle.page_print.proofs.faces.push_faces.Given as goal

-- the faces so far, with those of the parts that are left, are all
abbrev pub invariant-loop-part : goal.invariant-loop-part
invariant-loop-part l = string_bytes l.out ++ faces_text l.column (drop l.part-index l.parts) ≡ string_bytes l.initial.out ++ faces_text 0 l.parts
