mod FileLemmas
