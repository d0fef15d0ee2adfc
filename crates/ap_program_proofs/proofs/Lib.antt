mod ProgramLemmas
mod CountSumLemmas
