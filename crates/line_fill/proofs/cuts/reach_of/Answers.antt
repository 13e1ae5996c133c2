use Rattle.std.proofs.Common.{◌≡◌, ◌+◌, min, ℕ, false, get_or, take, sym, ap, ◌∙◌, arith}
use Rattle.line_fill.specs.declared.clusters.Cluster.{Cluster}
use Rattle.line_fill.specs.Sums.{most}
use Rattle.line_fill.specs.Cuts.{used}
use Rattle.line_fill.proofs.Longest.{used_more, fits_here, fits_no_more, fitting_more, words_more, words_stop, clusters_stop}
use Rattle.line_fill.proofs.cuts.reach_of.Goals as goal

pub loop-place-preserved : goal.loop-place-preserved
loop-place-preserved c =
    let none : Cluster = record { start = 0; width = 0; is_space = false } in
    let i : ℕ = c.loop-place.place in
    let wide : c.wider-width.result ≡ min (used (take i c.args.clusters.now) + (get_or c.args.clusters.now i none).width) most
    = c.wider-width.ensures ∙ ap (λ n. min (n + (get_or c.args.clusters.now i none).width) most) c.loop-place.invariant.width in
    let here = fits_here c.args.room c.args.clusters.now i none c.wider-width.result c.loop-place-test.true wide c.if-width-room.false in
    record {
      width = wide ∙ sym (used_more c.args.clusters.now i none c.loop-place-test.true);
      words = words_more c.args.room c.args.clusters.now i c.loop-place.words c.last_end-words.result here c.loop-place.invariant.words c.last_end-words.ensures.value;
      reached = c.last_end-words.ensures.within (omega arith);
      fitting = fitting_more c.args.room c.args.clusters.now i here;
    }

pub returns-then-width-room-clause-words : goal.returns-then-width-room-clause-words
returns-then-width-room-clause-words c =
    let none : Cluster = record { start = 0; width = 0; is_space = false } in
    let i : ℕ = c.loop-place.place in
    let wide : c.wider-width.result ≡ min (used (take i c.args.clusters.now) + (get_or c.args.clusters.now i none).width) most
    = c.wider-width.ensures ∙ ap (λ n. min (n + (get_or c.args.clusters.now i none).width) most) c.loop-place.invariant.width in
    words_stop c.args.room c.args.clusters.now i c.loop-place.words (omega arith)
    (fits_no_more c.args.room c.args.clusters.now i none c.wider-width.result c.loop-place-test.true wide c.if-width-room.true) c.loop-place.invariant.words

pub returns-then-width-room-clause-clusters : goal.returns-then-width-room-clause-clusters
returns-then-width-room-clause-clusters c =
    let none : Cluster = record { start = 0; width = 0; is_space = false } in
    let i : ℕ = c.loop-place.place in
    let wide : c.wider-width.result ≡ min (used (take i c.args.clusters.now) + (get_or c.args.clusters.now i none).width) most
    = c.wider-width.ensures ∙ ap (λ n. min (n + (get_or c.args.clusters.now i none).width) most) c.loop-place.invariant.width in
    clusters_stop c.args.room c.args.clusters.now i (omega arith)
    (fits_no_more c.args.room c.args.clusters.now i none c.wider-width.result c.loop-place-test.true wide c.if-width-room.true) c.loop-place.invariant.fitting
