-- How declarations and the map from their prefixes grow together.
use Rattle.std.proofs.Common.{◌≡◌, ℕ, Bool, true, false, cond, List, [], ◌∷◌, ◌++◌, Option, Some, None, refl, sym, ap, ◌∙◌, subst, is_some, bytes_eq, ◌&&◌, IsTrue, if◌then◌else◌}
use Rattle.std.specs.Option.{option_map}
use Rattle.std.specs.Map.{update}
use Rattle.std.specs.Str.{IsUtf8, is_utf8}
use Rattle.std.proofs.lemmas.Slice.Eq.{bytes_eq-Decides}
use Rattle.std.proofs.lemmas.Str.{is_utf8-from_IsUtf8}
use Rattle.serna_kinds.specs.Names.{Space, uri_of}
use Rattle.serna_kinds.specs.Lookups.{or_else, AreTexts, Uris, uri_in, AreIndexed}

pub or_else-none : {A : Type 0} (x : Option A) → or_else x None ≡ x
or_else-none (Some x) = refl
or_else-none None = refl

none_from_test : {A : Type 0} (x : Option A) → is_some x ≡ false → x ≡ None
none_from_test (Some x) e = cc
none_from_test None e = refl

-- a map that gets the value of a new key has what it had, and else that value at the key
pub map-update : {A : Type 0} (bytes : A → List ℕ) (f : List ℕ → Option A) (key : List ℕ) (value : A) (q : List ℕ) → is_some (f key) ≡ false
    → option_map bytes (update bytes_eq f key (Some value) q) ≡ or_else (option_map bytes (f q)) (if bytes_eq key q then Some (bytes value) else None)
map-update {A} bytes f key value q new = by (bytes_eq key q) refl
  where
    by : (b : Bool) → bytes_eq key q ≡ b → option_map bytes (cond b (Some value) (f q)) ≡ or_else (option_map bytes (f q)) (if b then Some (bytes value) else None)
    by true e =
        let none : f q ≡ None = subst (λ k. f k ≡ None) ((bytes_eq-Decides key q).0 e) (none_from_test (f key) new) in
        rw none refl
    by false e = sym (or_else-none (option_map bytes (f q)))

-- the first URI of a prefix with one declaration more
pub uri_of-append : (spaces : List Space) (s : Space) (q : List ℕ) → uri_of (spaces ++ s ∷ []) q ≡ or_else (uri_of spaces q) (if bytes_eq s.prefix q then Some s.uri else None)
uri_of-append [] s q = refl
uri_of-append (x ∷ xs) s q = by (bytes_eq x.prefix q) (uri_of-append xs s q)
  where
    by : (b : Bool) → uri_of (xs ++ s ∷ []) q ≡ or_else (uri_of xs q) (if bytes_eq s.prefix q then Some s.uri else None)
        → (if b then Some x.uri else uri_of (xs ++ s ∷ []) q) ≡ or_else (if b then Some x.uri else uri_of xs q) (if bytes_eq s.prefix q then Some s.uri else None)
    by true later = refl
    by false later = later

texts-append : (spaces : List Space) (s : Space) → AreTexts spaces → IsTrue (is_utf8 s.prefix && is_utf8 s.uri) → AreTexts (spaces ++ s ∷ [])
texts-append [] s old new = (new, tt)
texts-append (x ∷ xs) s old new = (old.0, texts-append xs s old.1 new)

both_true : (a b : Bool) → a ≡ true → b ≡ true → IsTrue (a && b)
both_true a b p q = rw p (rw q refl)

-- declarations and their map stay as one where both get a declaration
pub indexed-append : (spaces new : List Space) (s : Space) (old_uris new_uris : Uris) → new ≡ spaces ++ s ∷ [] → AreIndexed spaces old_uris
    → IsUtf8 s.prefix → IsUtf8 s.uri
    → ((q : List ℕ) → uri_in new_uris q ≡ or_else (uri_in old_uris q) (if bytes_eq s.prefix q then Some s.uri else None))
    → AreIndexed new new_uris
indexed-append spaces new s old_uris new_uris grown old prefix uri noted =
    subst (λ list. AreIndexed list new_uris) (sym grown)
    (record {
      texts = texts-append spaces s old.texts (both_true (is_utf8 s.prefix) (is_utf8 s.uri) (is_utf8-from_IsUtf8 s.prefix prefix) (is_utf8-from_IsUtf8 s.uri uri));
      first = λ q. noted q ∙ ap (λ x. or_else x (if bytes_eq s.prefix q then Some s.uri else None)) (old.first q) ∙ sym (uri_of-append spaces s q);
    })
