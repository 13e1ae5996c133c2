use Rattle.std.proofs.Common.{refl}
use Rattle.std.specs.Str.{chars, is_utf8}
use Rattle.tree_lines.proofs.laws.worked_faults.Goals as goal

pub returns-clause-full : goal.returns-clause-full
unfolding chars is_utf8 lib.Utf8.encode
returns-clause-full c = refl

pub returns-clause-empty : goal.returns-clause-empty
unfolding chars is_utf8 lib.Utf8.encode
returns-clause-empty c = refl

pub returns-clause-bad_line : goal.returns-clause-bad_line
unfolding chars is_utf8 lib.Utf8.encode
returns-clause-bad_line c = refl

pub returns-clause-text_outside : goal.returns-clause-text_outside
unfolding chars is_utf8 lib.Utf8.encode
returns-clause-text_outside c = refl

pub returns-clause-late_attribute : goal.returns-clause-late_attribute
unfolding chars is_utf8 lib.Utf8.encode
returns-clause-late_attribute c = refl

pub returns-clause-no_space : goal.returns-clause-no_space
unfolding chars is_utf8 lib.Utf8.encode
returns-clause-no_space c = refl

pub returns-clause-bad_name : goal.returns-clause-bad_name
unfolding chars is_utf8 lib.Utf8.encode
returns-clause-bad_name c = refl

pub returns-clause-bad_escape : goal.returns-clause-bad_escape
unfolding chars is_utf8 lib.Utf8.encode
returns-clause-bad_escape c = refl

pub returns-clause-unclosed : goal.returns-clause-unclosed
unfolding chars is_utf8 lib.Utf8.encode
returns-clause-unclosed c = refl

pub returns-clause-wrong_close : goal.returns-clause-wrong_close
unfolding chars is_utf8 lib.Utf8.encode
returns-clause-wrong_close c = refl

pub returns-clause-two_roots : goal.returns-clause-two_roots
unfolding chars is_utf8 lib.Utf8.encode
returns-clause-two_roots c = refl

pub returns-clause-bad_second_root : goal.returns-clause-bad_second_root
unfolding chars is_utf8 lib.Utf8.encode
returns-clause-bad_second_root c = refl

pub returns-clause-twice : goal.returns-clause-twice
unfolding chars is_utf8 lib.Utf8.encode
returns-clause-twice c = refl

pub returns-clause-declared_twice : goal.returns-clause-declared_twice
unfolding chars is_utf8 lib.Utf8.encode
returns-clause-declared_twice c = refl

pub returns-clause-unbound : goal.returns-clause-unbound
unfolding chars is_utf8 lib.Utf8.encode
returns-clause-unbound c = refl

pub returns-clause-empty_uri : goal.returns-clause-empty_uri
unfolding chars is_utf8 lib.Utf8.encode
returns-clause-empty_uri c = refl

pub returns-clause-inner : goal.returns-clause-inner
unfolding chars is_utf8 lib.Utf8.encode
returns-clause-inner c = refl

pub returns-clause-unbound_twice : goal.returns-clause-unbound_twice
unfolding chars is_utf8 lib.Utf8.encode
returns-clause-unbound_twice c = refl

pub returns-clause-unbound_beside : goal.returns-clause-unbound_beside
unfolding chars is_utf8 lib.Utf8.encode
returns-clause-unbound_beside c = refl

pub returns-clause-xml_alone : goal.returns-clause-xml_alone
unfolding chars is_utf8 lib.Utf8.encode
returns-clause-xml_alone c = refl
