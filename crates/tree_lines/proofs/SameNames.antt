-- When two attributes are the same: their keys tell it, and where both have a URI their expanded names do.
use Rattle.std.proofs.Common.{◌≡◌, ℕ, Bool, true, false, List, Option, Some, None, refl, sym, ap, ◌∙◌}
use Rattle.std.specs.Prelude.{not, ◌&&◌, ◌||◌, bytes_eq, is_some, if◌then◌else◌}
use Rattle.std.proofs.lemmas.Bool.{false≢true}
use Rattle.std.proofs.lemmas.Cmp.{nat_list_eq_equiv}
use Rattle.std.proofs.lemmas.Option.{none-some}
use Rattle.std.proofs.lemmas.Slice.Eq.{bytes_eq-Decides}
use Rattle.serna_kinds.specs.Names.{Space}
use Rattle.serna_kinds.specs.Qualified.{prefix_of, local_of, attribute_uri, uri_or_none, attribute_name, is_same_expanded}
use Rattle.tree_lines.specs.LeftOpen.{have_same_uri, is_same_attribute}
use Rattle.tree_lines.specs.Tags.{declared_prefix}
use Rattle.tree_lines.specs.Keys.{is_same_key, declaration_key, pair_key}

-- a test that another one follows from adds nothing to it
absorbed : (a b : Bool) → (a ≡ true → b ≡ true) → b ≡ (a || b)
absorbed true b h = h refl
absorbed false b h = refl

both_true : (a b : Bool) → a ≡ true → b ≡ true → (a && b) ≡ true
both_true a b e f = ap (λ (x : Bool). x && b) e ∙ f

-- the names are written alike: their prefixes stand for the same
alike : (spaces : List Space) (a b : List ℕ) → bytes_eq a b ≡ true → attribute_uri spaces (prefix_of a) ≡ attribute_uri spaces (prefix_of b)
alike spaces a b e = ap (λ (x : List ℕ). attribute_uri spaces (prefix_of x)) ((bytes_eq-Decides a b).0 e)

some_same : (u v : List ℕ) → Some u ≡ Some v → bytes_eq u v ≡ true
some_same u v e = (bytes_eq-Decides u v).1 (cc)

local_same : (a b : List ℕ) → bytes_eq a b ≡ true → bytes_eq (local_of a) (local_of b) ≡ true
local_same a b e = (bytes_eq-Decides (local_of a) (local_of b)).1 (ap local_of ((bytes_eq-Decides a b).0 e))

-- the keys of attributes that declare no namespace
keys_by : (a b : List ℕ) (x y : Option (List ℕ)) → (bytes_eq a b ≡ true → x ≡ y)
    → is_same_key (pair_key a x) (pair_key b y) ≡ (bytes_eq a b || (have_same_uri x y && bytes_eq (local_of a) (local_of b)))
keys_by a b None None h = or-false (bytes_eq a b)
  where
    or-false : (t : Bool) → t ≡ (t || false)
    or-false true = refl
    or-false false = refl
keys_by a b None (Some v) h = absorbed (bytes_eq a b) false (λ e. absurd (none-some v (h e)))
keys_by a b (Some u) None h = absorbed (bytes_eq a b) false (λ e. absurd (none-some u (sym (h e))))
keys_by a b (Some u) (Some v) h =
    absorbed (bytes_eq a b) (bytes_eq u v && bytes_eq (local_of a) (local_of b)) (λ e. both_true (bytes_eq u v) (bytes_eq (local_of a) (local_of b)) (some_same u v (h e)) (local_same a b e))

same_keys : (spaces : List Space) (a b : List ℕ)
    → is_same_key (pair_key a (attribute_uri spaces (prefix_of a))) (pair_key b (attribute_uri spaces (prefix_of b))) ≡ is_same_attribute spaces a b
same_keys spaces a b = keys_by a b (attribute_uri spaces (prefix_of a)) (attribute_uri spaces (prefix_of b)) (alike spaces a b)

-- a key of one kind is none of the other
declared_pair : (name other : List ℕ) (y : Option (List ℕ)) → is_same_key (declaration_key name) (pair_key other y) ≡ false
declared_pair name other None = refl
declared_pair name other (Some v) = refl

pair_declared : (name other : List ℕ) (x : Option (List ℕ)) → is_same_key (pair_key name x) (declaration_key other) ≡ false
pair_declared name other None = refl
pair_declared name other (Some u) = refl

-- the expanded names of attributes that have a URI
expanded_by : (a b : List ℕ) (x y : Option (List ℕ)) → is_some x ≡ true → is_some y ≡ true → (bytes_eq a b ≡ true → x ≡ y)
    → (bytes_eq a b || (have_same_uri x y && bytes_eq (local_of a) (local_of b))) ≡ (bytes_eq (uri_or_none x) (uri_or_none y) && bytes_eq (local_of a) (local_of b))
expanded_by a b None y one other h = absurd (false≢true one)
expanded_by a b (Some u) None one other h = absurd (false≢true other)
expanded_by a b (Some u) (Some v) one other h =
    sym (absorbed (bytes_eq a b) (bytes_eq u v && bytes_eq (local_of a) (local_of b)) (λ e. both_true (bytes_eq u v) (bytes_eq (local_of a) (local_of b)) (some_same u v (h e)) (local_same a b e)))

pub bound_same : (spaces : List Space) (a b : List ℕ) → is_some (attribute_uri spaces (prefix_of a)) ≡ true → is_some (attribute_uri spaces (prefix_of b)) ≡ true
    → is_same_attribute spaces a b ≡ is_same_expanded (attribute_name spaces a) (attribute_name spaces b)
bound_same spaces a b one other = expanded_by a b (attribute_uri spaces (prefix_of a)) (attribute_uri spaces (prefix_of b)) one other (alike spaces a b)

-- the keys of attributes tell what their names tell
pub declared_same : (spaces : List Space) (name other : List ℕ) (d : Bool) → is_same_key (declaration_key name) (if d then declaration_key other else pair_key other (attribute_uri spaces (prefix_of other)))
    ≡ (d && bytes_eq (declared_prefix other) (declared_prefix name))
declared_same spaces name other true = nat_list_eq_equiv.symm (declared_prefix name) (declared_prefix other)
declared_same spaces name other false = declared_pair name other (attribute_uri spaces (prefix_of other))

pub pair_key_same : (spaces : List Space) (name other : List ℕ) (d : Bool)
    → is_same_key (pair_key name (attribute_uri spaces (prefix_of name))) (if d then declaration_key other else pair_key other (attribute_uri spaces (prefix_of other)))
    ≡ (not d && is_same_attribute spaces name other)
pair_key_same spaces name other true = pair_declared name other (attribute_uri spaces (prefix_of name))
pair_key_same spaces name other false = same_keys spaces name other
