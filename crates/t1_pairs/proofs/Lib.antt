pub mod KernLaws
pub mod KernRows
pub mod PairLaws
pub mod PairsWellFormedLaws
pub mod PutLaws
pub mod SearchLaws
pub mod ValueLaws
