-- What the numbers of a model's names say.
use Rattle.std.proofs.Common.{◌≡◌, ◌<◌, ◌≤◌, ◌+◌, ℕ, suc, Bool, true, false, cond, List, [], ◌∷◌, ◌++◌, map, Option, Some, None, sym, refl, ap, ◌∙◌, subst, arith, unwrap_or, take, length, get_or, add-one}
use Rattle.std.specs.List.{AllByRecursion}
use Rattle.std.specs.Str.{bytes_eq}
use Rattle.std.proofs.lemmas.List.{map-append, take_all}
use Rattle.std.proofs.lemmas.Slice.Eq.{bytes_eq-Decides}
use Rattle.std.proofs.Math.Seq.{take-suc}
use Rattle.content_model.specs.Particle.{Particle, Content, Name, Joined, Repeated, Empty, Any, Mixed, Group, renamed, with_names, particle_names, content_names}
use Rattle.content_model.specs.Symbols.{symbol_from, number_in, Grows}
use Rattle.content_model.specs.Machine.{Reading, start, run, step, finish}
use Rattle.content_model.specs.declared.reader.Reader.{Reader}
use Rattle.content_model.specs.ShownReader.{Reads, Goes}
use Rattle.content_model.specs.Grammar.{IsText}
use Rattle.content_model.proofs.Faults.{text_is_read}
use Rattle.content_model.proofs.Table.{symbol_positive}
use Rattle.content_model.proofs.Bytes.{run-append, ending}

particle_names-renamed : {A B : Type 0} (f : A → B) (p : Particle A) → particle_names (renamed f p) ≡ map f (particle_names p)
particle_names-renamed f (Name a) = refl
particle_names-renamed f (Joined s p q) =
    ap (λ l. l ++ particle_names (renamed f q)) (particle_names-renamed f p) ∙ ap (λ l. map f (particle_names p) ++ l) (particle_names-renamed f q) ∙ sym (map-append f (particle_names p) (particle_names q))
particle_names-renamed f (Repeated o p) = particle_names-renamed f p

pub content_names-with_names : {A B : Type 0} (f : A → B) (c : Content A) → content_names (with_names f c) ≡ map f (content_names c)
content_names-with_names f Empty = refl
content_names-with_names f Any = refl
content_names-with_names f (Mixed names) = refl
content_names-with_names f (Group p) = particle_names-renamed f p

-- a name that is put into a table has a number there
added : (n : ℕ) (names : List (List ℕ)) (w : List ℕ) → (k : ℕ) × (symbol_from n (names ++ w ∷ []) w ≡ Some k)
added n [] w = (n, ap (λ b. cond b (Some n) None) ((bytes_eq-Decides w w).1 refl))
added n (name ∷ names) w = go (bytes_eq w name) (added (n + 1) names w)
  where
    go : (b : Bool) → ((k : ℕ) × (symbol_from (n + 1) (names ++ w ∷ []) w ≡ Some k)) → (k : ℕ) × (cond b (Some n) (symbol_from (n + 1) (names ++ w ∷ []) w) ≡ Some k)
    go true rest = (n, refl)
    go false rest = rest

-- names whose numbers no later table changes are in the table
positive : (table names : List (List ℕ)) → ((later : List (List ℕ)) → Grows table later → map (number_in table) names ≡ map (number_in later) names) → AllByRecursion (λ n. 0 < n) (map (number_in table) names)
positive table [] same = tt
positive table (w ∷ ws) same =
    let later = table ++ w ∷ [] in
    let is = added 1 table w in
    let above : 0 < is.0 = symbol_positive later w is.0 is.1 in
    let number : number_in later w ≡ is.0 = ap (λ o. unwrap_or o 0) is.1 in
    let heads = same later (w ∷ [], refl) in
    let equal : number_in table w ≡ number_in later w = head_is heads in
    (omega arith, positive table ws (λ l g. tail_is (same l g)))
  where
    head_is : {a b : ℕ} {xs ys : List ℕ} → a ∷ xs ≡ b ∷ ys → a ≡ b
    head_is e = cc

    tail_is : {a b : ℕ} {xs ys : List ℕ} → a ∷ xs ≡ b ∷ ys → xs ≡ ys
    tail_is e = cc

-- the names of a model that stands for one and the same in every later table have numbers
pub names_positive : (table : List (List ℕ)) (content : Content ℕ) (written : Content (List ℕ))
    → ((later : List (List ℕ)) → Grows table later → content ≡ with_names (number_in later) written) → Grows table table → AllByRecursion (λ n. 0 < n) (content_names content)
names_positive table content written same itself =
    let here = same table itself in
    let list = content_names-with_names (number_in table) written in
    subst (λ l. AllByRecursion (λ n. 0 < n) l) (sym (ap content_names here ∙ list))
    (positive table (content_names written) (λ later g.
    sym list ∙ ap content_names (sym here ∙ same later g) ∙ content_names-with_names (number_in later) written))

-- one more byte
pub run-more : (text : List ℕ) (at : ℕ) (r : Reading) → at < length text → run (Some start) (take at text) ≡ Some r → run (Some start) (take (suc at) text) ≡ run (step r (get_or text at 0)) []
run-more text at r within e =
    ap (run (Some start)) (take-suc text at 0 within) ∙ run-append (Some start) (take at text) (get_or text at 0 ∷ []) ∙ ap (λ o. run o (get_or text at 0 ∷ [])) e

pub run-nil : (o : Option Reading) → run o [] ≡ o
run-nil None = refl
run-nil (Some r) = refl

-- a byte that was taken leads on, and one that was not leads nowhere
pub went : (table : List (List ℕ)) (text : List ℕ) (at : ℕ) (ok : Bool) (r : Reader) (o : Option Reading) → Goes table text at ok r o → ok ≡ true → (next : Reading) × (o ≡ Some next) × Reads table text at r next
went table text at ok r None goes e = let no : true ≡ false = sym e ∙ goes in cc
went table text at ok r (Some next) goes e = (next, refl, goes.1)

pub stopped : (table : List (List ℕ)) (text : List ℕ) (at : ℕ) (ok : Bool) (r : Reader) (o : Option Reading) → Goes table text at ok r o → ok ≡ false → o ≡ None
stopped table text at ok r None goes e = refl
stopped table text at ok r (Some next) goes e = let no : false ≡ true = sym e ∙ goes.0 in cc

pub next_read : (text : List ℕ) (at : ℕ) (r next : Reading) → at < length text → run (Some start) (take at text) ≡ Some r → step r (get_or text at 0) ≡ Some next → run (Some start) (take (at + 1) text) ≡ Some next
next_read text at r next within e f =
    ap (λ n. run (Some start) (take n text)) (add-one at) ∙ run-more text at r within e ∙ run-nil (step r (get_or text at 0)) ∙ f

pub all_read : (text : List ℕ) (at : ℕ) (r : Reading) → length text ≤ at → run (Some start) (take at text) ≡ Some r → run (Some start) text ≡ Some r
all_read text at r past e = ap (run (Some start)) (sym (take_all at text past)) ∙ e

-- the one model of the text
pub same_model : (text : List ℕ) (r : Reading) (content written : Content (List ℕ)) → run (Some start) text ≡ Some r → finish r ≡ Some content → IsText text written → content ≡ written
same_model text r content written e f is =
    let read : Some content ≡ Some written = sym f ∙ ap ending (sym e) ∙ text_is_read text written is in cc
