pub mod PairSource
