mod EventLemmas
