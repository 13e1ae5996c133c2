use Rattle.xpath_axes.proofs.paths.+node_path.Given as goal

abbrev pub decreases-node_path : goal.decreases-node_path
decreases-node_path g l = l.left
