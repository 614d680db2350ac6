-- `put_tree` meets its contract. It calls itself for both halves, each of which has fewer runs.
use Rattle.search_writer.proofs.+put_tree.Given as goal

abbrev pub decreases-put_tree : goal.decreases-put_tree
decreases-put_tree l = l.n
