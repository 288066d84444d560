use Rattle.jul_words.proofs.count_words.Words+Count.add.Given as goal

abbrev pub ghosts-add_for : goal.ghosts-add_for
ghosts-add_for a = record { place = a.place }
