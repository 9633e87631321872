mod FaultLaws
mod GenerationLaws
mod PruningLaws
mod ListLaws
