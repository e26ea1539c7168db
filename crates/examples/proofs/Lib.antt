mod CountingWords
