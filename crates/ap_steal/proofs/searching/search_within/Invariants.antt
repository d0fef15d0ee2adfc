use Rattle.ap_steal.proofs.searching.search_within.Given as goal

abbrev pub ghosts-search_in : goal.ghosts-search_in
ghosts-search_in g a = record { choices = g.T.Tree.choices a.tree.now }
