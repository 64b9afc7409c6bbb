mod LineLemmas
