mod PathLemmas
