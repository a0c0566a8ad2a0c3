mod CounterOrder
mod ListLemmas
pub mod Steps
mod HeightLemmas
mod BoundOfManyRows
