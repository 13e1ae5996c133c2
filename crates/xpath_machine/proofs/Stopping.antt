-- Where a reader stops, for any machine that reads the trees of a grammar.
use Rattle.std.proofs.Common.{◌≡◌, ◌<◌, ◌≤◌, ◌+◌, ℕ, zero, suc, List, [], ◌∷◌, ◌++◌, length, take, drop, Option, Some, None, sym, refl, ap, ◌∙◌, subst, arith, inl, inr}
use Rattle.std.proofs.lemmas.List.{take_all, take-append-drop, drop-drop}
use Rattle.xpath_tokens.specs.declared.symbol.Symbol.{Symbol}
use Rattle.xpath_machine.specs.Advance.{Refuses, Advances, ReadsBy}
use Rattle.xpath_machine.specs.Stops.{next_depth, IsShallowFrom, IsShallow, HasTreeBy, CanGoOnBy, IsStopBy}

-- how many brackets are open behind these tokens
abbrev pub depth_after : ℕ → List Symbol → ℕ
depth_after n [] = n
depth_after n (t ∷ ts) = depth_after (next_depth n t) ts

shallow-push : (n : ℕ) (ts : List Symbol) (t : Symbol) → IsShallowFrom n ts → next_depth (depth_after n ts) t ≤ 64 → IsShallowFrom n (ts ++ t ∷ [])
shallow-push n [] t s le = (le, tt)
shallow-push n (u ∷ ts) t s le = (s.0, shallow-push (next_depth n u) ts t s.1 le)

shallow-last : (n : ℕ) (ts : List Symbol) (t : Symbol) → IsShallowFrom n (ts ++ t ∷ []) → next_depth (depth_after n ts) t ≤ 64
shallow-last n [] t s = s.0
shallow-last n (u ∷ ts) t s = shallow-last (next_depth n u) ts t s.1

shallow-take : (n k : ℕ) (ts : List Symbol) → IsShallowFrom n ts → IsShallowFrom n (take k ts)
shallow-take n zero ts s = tt
shallow-take n (suc k) [] s = tt
shallow-take n (suc k) (t ∷ ts) s = (s.0, shallow-take (next_depth n t) k ts s.1)

depth_after-push : (n : ℕ) (ts : List Symbol) (t : Symbol) → depth_after n (ts ++ t ∷ []) ≡ next_depth (depth_after n ts) t
depth_after-push n [] t = refl
depth_after-push n (u ∷ ts) t = depth_after-push (next_depth n u) ts t

-- the next token, behind those that were taken
next_front : (tokens : List Symbol) (k : ℕ) (t : Symbol) (rest : List Symbol) → k < length tokens → drop k tokens ≡ t ∷ rest → take (suc k) tokens ≡ take k tokens ++ t ∷ []
next_front tokens k t rest lt e = go tokens k e
  where
    go : (ts : List Symbol) (n : ℕ) → drop n ts ≡ t ∷ rest → take (suc n) ts ≡ take n ts ++ t ∷ []
    go [] zero f = cc
    go [] (suc n) f = cc
    go (u ∷ ts) zero f = let same : u ≡ t = cc in ap (λ x. x ∷ []) same
    go (u ∷ ts) (suc n) f = ap (λ l. u ∷ l) (go ts n f)

-- what a reader has of the tokens so far
pub record Taken {S : Type 0} (run : List Symbol → Option S) (tokens : List Symbol) (state : S) (open_now : ℕ) : Type 0 where
  pub run_is : run tokens ≡ Some state
  pub shallow : IsShallow tokens
  pub open_is : depth_after 0 tokens ≡ open_now

-- what a reader's loop has of the tokens
pub record Standing {S : Type 0} (run : List Symbol → Option S) (tokens : List Symbol) (k : ℕ) (left : List Symbol) (state : S) (open_now : ℕ) : Type 0 where
  pub within : k + length left ≡ length tokens
  pub left_is : left ≡ drop k tokens
  pub has : Taken run (take k tokens) state open_now

module _ {S T : Type 0} (run : List Symbol → Option S) (leads : S → Symbol → Option S) (finish : S → Option T) (Is : List Symbol → T → Type 0) (reads : ReadsBy run leads finish Is) where
  can_go_on : (tokens : List Symbol) (state : S) (open_now : ℕ) → Taken run tokens state open_now → CanGoOnBy Is tokens
  can_go_on tokens state open_now w = (reads.begins tokens state w.run_is, w.shallow)

  -- a tree cannot be had past a stop
  no_tree : (tokens : List Symbol) (k : ℕ) → k < length tokens → (CanGoOnBy Is (take (suc k) tokens) → ⊥) → (tree : T) → HasTreeBy Is tokens tree → ⊥
  no_tree tokens k lt h tree (is, shallow) =
      let parts = take-append-drop (suc k) tokens in
      h ((drop (suc k) tokens, tree, subst (λ l. Is l tree) (sym parts) is), shallow-take 0 (suc k) tokens shallow)

  stops : (tokens : List Symbol) (k : ℕ) (state : S) (open_now : ℕ) → Taken run (take k tokens) state open_now → k < length tokens → (CanGoOnBy Is (take (suc k) tokens) → ⊥) → IsStopBy Is tokens k
  stops tokens k state open_now w lt h = record { within = omega arith; before = can_go_on (take k tokens) state open_now w; stuck = λ _. h; none = no_tree tokens k lt h }

  -- a token that opens a bracket past the limit, or leads nowhere
  pub stops_refused : (tokens : List Symbol) (k : ℕ) (left : List Symbol) (state : S) (open_now : ℕ) (t : Symbol) (rest : List Symbol) → Standing run tokens k left state open_now → left ≡ t ∷ rest → Refuses leads state open_now t
      → IsStopBy Is tokens k
  stops_refused tokens k left state open_now t rest w e refused =
      let size : length left ≡ suc (length rest) = ap length e in
      let within = w.within in
      let lt : k < length tokens = omega arith in
      let front = next_front tokens k t rest lt (sym w.left_is ∙ e) in
      elim refused [
        | inl deep ↦
            stops tokens k state open_now w.has lt (λ g.
            let last = shallow-last 0 (take k tokens) t (subst IsShallow front g.1) in
            let is : next_depth (depth_after 0 (take k tokens)) t ≡ next_depth open_now t = ap (λ n. next_depth n t) w.has.open_is in
            omega arith)
        | inr nowhere ↦ stops tokens k state open_now w.has lt (λ g. reads.stuck (take (suc k) tokens) (ap run front ∙ reads.more (take k tokens) state t w.has.run_is ∙ nowhere) g.0)
      ]

  pub stands_on : (tokens : List Symbol) (k : ℕ) (left : List Symbol) (state : S) (open_now : ℕ) (t : Symbol) (rest : List Symbol) → Standing run tokens k left state open_now → left ≡ t ∷ rest
      → (next : S) (open_then : ℕ) → Advances leads state open_now t next open_then → Standing run tokens (k + 1) rest next open_then
  stands_on tokens k left state open_now t rest w e next open_then step =
      let size : length left ≡ suc (length rest) = ap length e in
      let within = w.within in
      let lt : k < length tokens = omega arith in
      let at : drop k tokens ≡ t ∷ rest = sym w.left_is ∙ e in
      let more : k + 1 ≡ suc k = omega arith in
      let deep : next_depth (depth_after 0 (take k tokens)) t ≡ open_then = ap (λ n. next_depth n t) w.has.open_is ∙ sym step.depth_is in
      record {
        within = omega arith;
        left_is = sym (sym (drop-drop 1 k tokens) ∙ ap (drop 1) at);
        has = subst (λ l. Taken run l next open_then) (sym (ap (λ n. take n tokens) more ∙ next_front tokens k t rest lt at)) (record {
          run_is = reads.more (take k tokens) state t w.has.run_is ∙ step.state_is;
          shallow = shallow-push 0 (take k tokens) t w.has.shallow (subst (λ n. n ≤ 64) (sym deep) step.shallow);
          open_is = depth_after-push 0 (take k tokens) t ∙ deep;
        });
      }

  pub stands_first : (tokens : List Symbol) (first : S) → run [] ≡ Some first → Standing run tokens 0 tokens first 0
  stands_first tokens first e = record { within = omega arith; left_is = refl; has = record { run_is = e; shallow = tt; open_is = refl } }

  -- all tokens are taken
  all_taken : (tokens : List Symbol) (k : ℕ) (left : List Symbol) (state : S) (open_now : ℕ) → Standing run tokens k left state open_now → left ≡ [] → Taken run tokens state open_now
  all_taken tokens k left state open_now w none =
      let size : length left ≡ 0 = ap length none in
      let within = w.within in
      subst (λ l. Taken run l state open_now) (take_all k tokens (omega arith)) w.has

  pub reads_all : (tokens : List Symbol) (k : ℕ) (left : List Symbol) (state : S) (open_now : ℕ) (tree : T) (o : Option T) → Standing run tokens k left state open_now → left ≡ [] → o ≡ Some tree → o ≡ finish state → HasTreeBy Is tokens tree
  reads_all tokens k left state open_now tree o w none some e =
      let has = all_taken tokens k left state open_now w none in (reads.tree tokens state tree has.run_is (sym e ∙ some), has.shallow)

  pub ends_early : (tokens : List Symbol) (k : ℕ) (left : List Symbol) (state : S) (open_now : ℕ) (o : Option T) → Standing run tokens k left state open_now → left ≡ [] → o ≡ None → o ≡ finish state → IsStopBy Is tokens k
  ends_early tokens k left state open_now o w none missing e =
      let size : length left ≡ 0 = ap length none in
      let within = w.within in
      let has = all_taken tokens k left state open_now w none in
      record {
        within = omega arith;
        before = subst (CanGoOnBy Is) (sym (take_all k tokens (omega arith))) (can_go_on tokens state open_now has);
        stuck = λ lt. absurd (omega arith);
        none = λ tree is. reads.none tokens state tree has.run_is (sym e ∙ missing) is.0;
      }
