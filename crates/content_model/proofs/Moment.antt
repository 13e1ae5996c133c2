-- What holds between two children of a word that is matched.
use Rattle.std.proofs.Common.{◌≡◌, ℕ, Bool, true, false, ◌&&◌, ◌||◌, List, [], ◌∷◌, sym, refl, ap, ◌∙◌, subst, inl, inr, fold, reverse}
use Rattle.content_model.specs.declared.particle.Node.{Node}
use Rattle.content_model.specs.declared.stack.Stacks.{Stacks}
use Rattle.content_model.specs.Particle.{Particle}
use Rattle.content_model.specs.Language.{Matches}
use Rattle.content_model.specs.Stack.{top}
use Rattle.content_model.specs.Passes.{is_nullable, nodes_of, settle_node, no_stacks, without_end, after_child}
use Rattle.content_model.proofs.Marked.{Marked, bare, is_final, shift, Live, bare-shift, shift_live, live_shift, nullable_matches, matches_nullable, final_rest, rest_final, none_left, and-true, true-and, or-true, or-left, or-right}
use Rattle.content_model.proofs.Passing.{stacks, kept_of, unmarked, bare-unmarked, is_final-unmarked, settle-start, passes-shift}

-- The stacks hold marks of the particle. The word is in its language exactly where its rest leads on from there.
pub record Moment (p : Particle ℕ) (word rest : List ℕ) (s : Stacks) (begins ends : Bool) : Type 0 where
  pub now : Marked
  pub same : bare now ≡ p
  pub held : s ≡ stacks (kept_of now) [] []
  pub ended : ends ≡ is_final now
  pub on : Live begins now rest → Matches p word
  pub back : Matches p word → Live begins now rest

-- before the first child
pub moment_start : (p : Particle ℕ) (word : List ℕ) (ns : List Node) → reverse ns ≡ nodes_of (λ n. n) p
    → (t : Stacks) → t ≡ without_end (fold settle_node no_stacks ns) → Moment p word word t true false
moment_start p word ns h t e =
    record {
      now = unmarked p;
      same = bare-unmarked p;
      held = e ∙ ap without_end (settle-start p ns h);
      ended = sym (is_final-unmarked p);
      on = λ live. elim live [ inl l ↦ subst (λ (x : Particle ℕ). Matches x word) (bare-unmarked p) l.1 | inr r ↦ absurd (none_left p word r) ];
      back = λ matched. inl (refl, subst (λ (x : Particle ℕ). Matches x word) (sym (bare-unmarked p)) matched);
    }

-- after one more
pub moment_more : (p : Particle ℕ) (word rest : List ℕ) (c : ℕ) (ns : List Node) → reverse ns ≡ nodes_of (λ n. n) p
    → (s : Stacks) (begins ends : Bool) → Moment p word (c ∷ rest) s begins ends
    → (t : Stacks) (e : Bool) → e ≡ top (after_child c begins ns s).ends → t ≡ without_end (after_child c begins ns s) → Moment p word rest t false e
moment_more p word rest c ns h s begins ends m t e last same =
    let q = m.now in
    let to = shift c begins q in
    let nodes = h ∙ ap (nodes_of (λ n. n)) (sym m.same) in
    let after : after_child c begins ns s ≡ stacks (kept_of to) [] (is_final to ∷ []) =
    ap (after_child c begins ns) m.held ∙ passes-shift c begins q ns nodes in
    record {
      now = to;
      same = bare-shift c begins q ∙ m.same;
      held = same ∙ ap without_end after;
      ended = last ∙ ap (λ (x : Stacks). top x.ends) after;
      on = λ live. elim live [
        | inl l ↦ (let no : false ≡ true = l.0 in cc)
        | inr r ↦ m.on (shift_live c begins q rest r)
      ];
      back = λ matched. inr (live_shift c begins q rest (m.back matched));
    }

-- behind the last one
pub moment_end : (p : Particle ℕ) (word : List ℕ) (s : Stacks) (begins ends nullable : Bool) → nullable ≡ is_nullable p → Moment p word [] s begins ends
    → ((begins && nullable || ends ≡ true) → Matches p word) × (Matches p word → begins && nullable || ends ≡ true)
moment_end p word s begins ends nullable e m =
    let q = m.now in
    let same : is_nullable (bare q) ≡ nullable = ap is_nullable m.same ∙ sym e in (
      λ yes. elim (or-true (begins && nullable) ends yes) [
        | inl l ↦ (let both = and-true begins nullable l in m.on (inl (both.0, nullable_matches (bare q) (same ∙ both.1))))
        | inr r ↦ m.on (inr (final_rest q (sym m.ended ∙ r)))
      ],
      λ matched. elim (m.back matched) [
        | inl l ↦ or-left _ _ (true-and _ _ l.0 (sym same ∙ matches_nullable (bare q) l.1))
        | inr r ↦ or-right (begins && nullable) ends (m.ended ∙ rest_final q r)
      ],
    )
