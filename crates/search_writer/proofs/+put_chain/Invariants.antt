-- `put_chain` meets its contract. It calls itself for the runs behind the first, of which there is one less.
use Rattle.search_writer.proofs.+put_chain.Given as goal

abbrev pub decreases-put_chain : goal.decreases-put_chain
decreases-put_chain l = l.n
