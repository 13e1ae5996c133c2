use Rattle.xpath_axes.proofs.walks.+add_outward.Given as goal

abbrev pub decreases-add_outward : goal.decreases-add_outward
decreases-add_outward g l = l.left
